-- A credit is written as C.
use Rattle.std.proofs.Common.{rules}
use Rattle.iso_record.proofs.writing.letter.Goals as goal

pub returns-in-Credit : goal.returns-in-Credit
returns-in-Credit c = search rules
