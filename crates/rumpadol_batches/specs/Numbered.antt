-- Batches whose answers tell the places that come next.
use Rattle.std.specs.Prelude.{ℕ, ◌+◌, ◌==◌, List, [], ◌∷◌, Option, Some, None, if◌then◌else◌}
use Rattle.iso_record.specs.declared.row.Row.{Row}
use Rattle.iso_shared.specs.Batch.{BatchContents, rows_bytes}

-- how many orders there are with these behind so many, where each answer tells the next place
abbrev pub counted : ℕ → List Row → Option ℕ
counted before [] = Some before
counted before (r ∷ rs) = if r.answer.seq == before + 1 then counted (before + 1) rs else None

-- a batch that names this place
abbrev pub named : ℕ → Option BatchContents → Option BatchContents
named place (Some b) = if b.heading.place == place then Some b else None
named place None = None

-- the same, of the rows of a batch
abbrev pub counted_in : ℕ → Option BatchContents → Option ℕ
counted_in before (Some b) = counted before b.rows
counted_in before None = None

-- the records of its orders
abbrev pub records_in : Option BatchContents → List ℕ
records_in (Some b) = rows_bytes b.rows
records_in None = []
