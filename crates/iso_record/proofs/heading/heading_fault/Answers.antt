-- Where the format is the same and the rules aren't, the rules are told.
use Rattle.std.proofs.Common.{rules}
use Rattle.iso_record.proofs.heading.heading_fault.Goals as goal

pub returns-then-not-are_same-2-clause-fault : goal.returns-then-not-are_same-2-clause-fault
returns-then-not-are_same-2-clause-fault c = search rules
