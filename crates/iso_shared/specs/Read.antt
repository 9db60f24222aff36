-- A batch that was read.
use Rattle.std.specs.Prelude.{List, ◌++◌, Option, Some, None}
use Rattle.iso_record.specs.declared.row.Row.{Row}
use Rattle.iso_shared.specs.declared.reading.Batch.{Batch as ReadBatch}
use Rattle.iso_shared.specs.Batch.{BatchContents}

-- the batch that it is
abbrev pub filed_of : ReadBatch → BatchContents
filed_of b = record { heading = b.heading; rows = b.rows.items }

-- rows in front of others, where those are there
abbrev pub rows_before : List Row → Option (List Row) → Option (List Row)
rows_before rs (Some more) = Some (rs ++ more)
rows_before rs None = None
