-- The four characters are those of the nibbles, the higher one of a byte first.
use Rattle.std.proofs.Common.{refl}
use Rattle.iso_parts.proofs.digits.bcd_characters.Goals as goal

pub returns : goal.returns
returns c = refl
