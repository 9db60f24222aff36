use Rattle.std.proofs.Common.{◌≡◌, ◌+◌, ◌-◌, ◌*◌, ◌^◌, ◌<◌, drop}
use Rattle.std.specs.Prelude.{min, unwrap_or}
use Rattle.std.specs.List.{fold}
use Rattle.hex.specs.Hex.{hex_digit_value}
use Rattle.iso_input.specs.Dump.{offset_of}
use Rattle.iso_input.proofs.dump.offset_of.Given as goal

-- the number so far, and then that of the rest
abbrev pub invariant-loop-byte : goal.invariant-loop-byte
invariant-loop-byte l = record {
  read : offset_of l.digits ≡ fold (λ n b. min (16 * n + unwrap_or (hex_digit_value b) 0) (2 ^ 64 - 1)) l.offset (drop l.byte-index l.digits);
  fits : l.offset < 2 ^ 64;
}
