-- Any fault but Exists, Other, Damaged and Notes is no refusal of what was given.
use Rattle.std.proofs.Common.{rules}
use Rattle.rumpadol_buying.proofs.diary.DiaryFault.is_refusal.Goals as goal

pub returns-in_default : goal.returns-in_default
returns-in_default c = search rules
