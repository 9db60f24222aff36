-- The heading has the rules, and the document's digest in four words.
use Rattle.std.proofs.Common.{rules}
use Rattle.iso_record.proofs.heading.Heading.of.Goals as goal

pub returns : goal.returns
returns c = search rules
