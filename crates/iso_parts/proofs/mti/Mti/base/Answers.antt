-- Three digits stay, and the origin is rounded down to an even one.
use Rattle.std.proofs.Common.{refl}
use Rattle.iso_parts.proofs.mti.Mti.base.Goals as goal

pub returns : goal.returns
returns c = refl
