use Rattle.std.proofs.Common.{◌+◌, ◌*◌, [], Some, refl, sym, ap, ◌∙◌, arith}
use Rattle.std.proofs.lemmas.List.{length-set}
use Rattle.hex.proofs.Pairs.{decode_start}
use Rattle.iso_parts.specs.BitmapReading.{word_of}
use Rattle.iso_parts.proofs.HexDigits.{digit_at, digits_more, digits_done}
use Rattle.iso_parts.proofs.bitmap_reading.digits_word.Goals as goal

pub digit_value-requires : goal.digit_value-requires
digit_value-requires c = digit_at c.args.digits.now (2 * c.loop-i.i) (omega arith) c.requires.all

pub digit_value-requires-in-loop-i : goal.digit_value-requires-in-loop-i
digit_value-requires-in-loop-i c = digit_at c.args.digits.now (2 * c.loop-i.i + 1) (omega arith) c.requires.all

pub loop-i-init : goal.loop-i-init
loop-i-init c = record { eight = refl; said = decode_start c.args.digits.now [] }

pub loop-i-preserved : goal.loop-i-preserved
loop-i-preserved c = record {
  eight = length-set _ _ _ ∙ c.loop-i.invariant.eight;
  said = digits_more c.args.digits.now c.loop-i.byte-items c.loop-i.i c.digit_value.result c.digit_value-in-loop-i.result (omega arith) (omega arith) c.digit_value.ensures.value c.digit_value-in-loop-i.ensures.value c.loop-i.invariant.said;
}

pub returns : goal.returns
returns c =
    let read = digits_done c.args.digits.now c.loop-i.byte-items c.loop-i.i (omega arith) (omega arith) c.loop-i.invariant.said in
    ap word_of read ∙ ap Some (sym c.from_be_bytes.ensures)
