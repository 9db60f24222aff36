-- One byte packs thousands and hundreds, the next one tens and ones.
use Rattle.std.proofs.Common.{refl}
use Rattle.iso_parts.proofs.digits.four_bcd_digits.Goals as goal

pub returns : goal.returns
returns c = refl
