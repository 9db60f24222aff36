-- The header of that number frames the body, unless that is too long or memory runs out.
use Rattle.std.proofs.Common.{rules}
use Rattle.iso_c.proofs.frames.frame_body.Goals as goal

pub returns-in_err-frame-in-Some-clause-fault : goal.returns-in_err-frame-in-Some-clause-fault
returns-in_err-frame-in-Some-clause-fault c = search rules

pub returns-in_ok-frame-in-Some-clause-ok : goal.returns-in_ok-frame-in-Some-clause-ok
returns-in_ok-frame-in-Some-clause-ok c = search rules
