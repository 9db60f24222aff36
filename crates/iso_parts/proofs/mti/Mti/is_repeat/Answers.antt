-- It is a repeat where the origin is odd.
use Rattle.std.proofs.Common.{refl}
use Rattle.iso_parts.proofs.mti.Mti.is_repeat.Goals as goal

pub returns : goal.returns
returns c = refl
