-- The bytes that the stream took wait no more.
use Rattle.std.proofs.Common.{rules}
use Rattle.iso_lines.proofs.writing.write_waiting.Goals as goal

pub returns-in-Took-clause-waits : goal.returns-in-Took-clause-waits
returns-in-Took-clause-waits c = search rules
