-- The digit is the one at its place among the sixteen in upper case.
use Rattle.std.proofs.Common.{refl}
use Rattle.iso_parts.proofs.encoding.hex_digit.Goals as goal

pub returns : goal.returns
returns c = refl
