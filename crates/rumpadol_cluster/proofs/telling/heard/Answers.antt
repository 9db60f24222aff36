-- A whole text that doesn't tell to take over tells something else.
use Rattle.std.proofs.Common.{rules}
use Rattle.rumpadol_cluster.proofs.telling.heard.Goals as goal

pub returns-then-is_whole : goal.returns-then-is_whole
returns-then-is_whole c = search rules
