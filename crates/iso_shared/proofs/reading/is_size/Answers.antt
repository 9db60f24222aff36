-- Whole records, at least one, are a batch where they are at most 1,048,576 bytes.
use Rattle.std.proofs.Common.{rules}
use Rattle.iso_shared.proofs.reading.is_size.Goals as goal

pub returns-then-len-ge-RECORD : goal.returns-then-len-ge-RECORD
returns-then-len-ge-RECORD c = search rules
