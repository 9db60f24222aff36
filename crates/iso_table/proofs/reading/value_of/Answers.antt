-- A text is refused as no JSON, unless it was memory that ran out.
use Rattle.std.proofs.Common.{refl}
use Rattle.iso_table.proofs.reading.value_of.Goals as goal

pub returns-in-Err-2-clause-fault : goal.returns-in-Err-2-clause-fault
returns-in-Err-2-clause-fault c = λ _. refl
