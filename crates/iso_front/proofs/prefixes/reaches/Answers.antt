-- Prefixes that begin above the shorter ones don't reach them.
use Rattle.std.proofs.Common.{rules}
use Rattle.iso_front.proofs.prefixes.reaches.Goals as goal

pub returns-else-without_last-short : goal.returns-else-without_last-short
returns-else-without_last-short c = search rules
