use Rattle.std.proofs.Common.{◌≡◌, ◌*◌, ◌++◌, take, drop}
use Rattle.hex.specs.Hex.{encode_with, upper_digits}
use Rattle.iso_parts.proofs.encoding.write_hex.Given as goal

abbrev pub invariant-loop-i : goal.invariant-loop-i
invariant-loop-i l =
    take (2 * l.i) l.room ++ encode_with upper_digits (drop l.i l.bytes) ≡ encode_with upper_digits l.bytes
