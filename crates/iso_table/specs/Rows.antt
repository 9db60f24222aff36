-- The rows of a table, one after another, and the draft that says what the table says.
use Rattle.std.specs.Prelude.{ℕ, ◌+◌, List, [], ◌∷◌, Option, Some, None}
use Rattle.iso_parts.specs.declared.spec.FieldSpec.{FieldSpec}
use Rattle.iso_table.specs.declared.draft.Row.{Row}
use Rattle.iso_table.specs.Accepted.{DraftContents}
use Rattle.iso_table.specs.Layout.{Layout}

-- the rows that stand at places, the first of which is that of element n: each once, in ascending order
abbrev pub rows_from : ℕ → List (Option FieldSpec) → List Row
rows_from n [] = []
rows_from n (None ∷ places) = rows_from (n + 1) places
rows_from n (Some s ∷ places) = record { number = n; spec = s } ∷ rows_from (n + 1) places

-- the rows of a table
abbrev pub rows_of : Layout → List Row
rows_of t = rows_from 0 t.rows

-- what a table says, as a draft with its rows in ascending order
abbrev pub draft_of : Layout → DraftContents
draft_of t = record { version = t.version; mti = t.mti; bitmap = t.bitmap; rows = rows_of t }
