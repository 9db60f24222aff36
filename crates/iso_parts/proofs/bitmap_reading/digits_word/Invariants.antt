use Rattle.std.proofs.Common.{◌≡◌, ◌*◌, length, take, drop}
use Rattle.hex.specs.Hex.{decode_pairs}
use Rattle.hex.proofs.Pairs.{prepend}
use Rattle.iso_parts.proofs.bitmap_reading.digits_word.Given as goal

abbrev pub invariant-loop-i : goal.invariant-loop-i
invariant-loop-i l = record {
  eight : length l.byte-items ≡ 8;
  said : decode_pairs 0 l.digits ≡ prepend (take l.i l.byte-items) (decode_pairs (2 * l.i) (drop (2 * l.i) l.digits));
}
