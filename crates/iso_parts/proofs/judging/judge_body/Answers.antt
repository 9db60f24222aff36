-- A whole body with a fault is refused for that fault.
use Rattle.std.proofs.Common.{rules}
use Rattle.iso_parts.proofs.judging.judge_body.Goals as goal

pub returns-in_err-judge_whole-clause-exact : goal.returns-in_err-judge_whole-clause-exact
returns-in_err-judge_whole-clause-exact c = search rules
