-- The bits in front of bit k are those of the word without its last k + 1 bits.
use Rattle.std.proofs.Common.{refl}
use Rattle.iso_parts.proofs.bits.bits_before.Goals as goal

pub returns : goal.returns
returns c = refl
