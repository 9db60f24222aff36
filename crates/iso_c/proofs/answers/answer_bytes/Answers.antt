-- Where the room holds the bytes, the fault stays as it was.
use Rattle.std.proofs.Common.{rules}
use Rattle.iso_c.proofs.answers.answer_bytes.Goals as goal

pub returns-clause-kept : goal.returns-clause-kept
returns-clause-kept c = search rules
