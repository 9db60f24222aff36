-- The characters are thousands, hundreds, tens and ones, each from '0' on.
use Rattle.std.proofs.Common.{refl}
use Rattle.iso_parts.proofs.digits.four_ascii_digits.Goals as goal

pub returns : goal.returns
returns c = refl
