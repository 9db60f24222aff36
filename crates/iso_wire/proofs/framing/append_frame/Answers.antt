-- A body that the header can't count changes nothing.
use Rattle.std.proofs.Common.{refl}
use Rattle.iso_wire.proofs.framing.append_frame.Goals as goal

pub returns-then-body-limit-clause-err : goal.returns-then-body-limit-clause-err
returns-then-body-limit-clause-err c = refl
