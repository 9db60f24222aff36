-- A batch of orders as bytes: a heading, and a record of 128 bytes for each order with its answer.
use Rattle.std.specs.Prelude.{◌≡◌, ℕ, zero, suc, ◌+◌, ◌-◌, ◌/◌, ◌%◌, ◌==◌, ◌&&◌, nat_le, Bool, true}
use Rattle.std.specs.Prelude.{List, [], ◌∷◌, ◌++◌, length, Option, Some, None, if◌then◌else◌}
use Rattle.std.specs.List.{list_all}
use Rattle.iso_log.specs.Slots.{slot}
use Rattle.iso_record.specs.declared.row.Row.{Row}
use Rattle.iso_record.specs.Row.{row_bytes, row_in, is_row}
use Rattle.iso_shared.specs.declared.heading.Heading.{Heading as Head}
use Rattle.iso_shared.specs.Heading.{heading_bytes, heading_in, is_heading}

-- where a batch stands and who wrote it, and its orders with their answers
pub record BatchContents : Type 0 where
  pub heading : Head
  pub rows : List Row

-- ---- written

-- the records of rows
abbrev pub rows_bytes : List Row → List ℕ
rows_bytes [] = []
rows_bytes (r ∷ rs) = row_bytes r ++ rows_bytes rs

-- a batch as bytes
abbrev pub batch_bytes : BatchContents → List ℕ
batch_bytes b = heading_bytes b.heading ++ rows_bytes b.rows

-- ---- read

-- a row in front of others, where both are there
abbrev pub row_before : Option Row → Option (List Row) → Option (List Row)
row_before (Some r) (Some rs) = Some (r ∷ rs)
row_before _ _ = None

-- the rows that so many records are, from one on
abbrev pub rows_from : ℕ → ℕ → List ℕ → Option (List Row)
rows_from zero j text = Some []
rows_from (suc n) j text = row_before (row_in (slot text j)) (rows_from n (j + 1) text)

-- one record or more, at most 1,048,576 bytes
abbrev pub is_size : ℕ → Bool
is_size n = (n % 128 == 0) && (nat_le 128 n && nat_le n 1048576)

-- a batch of its parts
abbrev pub filed_by : Option Head → Option (List Row) → Option BatchContents
filed_by (Some h) (Some rs) = Some (record { heading = h; rows = rs })
filed_by _ _ = None

-- the batch that bytes are
abbrev pub batch_in : List ℕ → Option BatchContents
batch_in text =
    if is_size (length text)
    then filed_by (heading_in (slot text 0)) (rows_from (length text / 128 - 1) 1 text)
    else None

-- ---- what holds

-- a batch that can be written
abbrev pub is_filed : BatchContents → Bool
is_filed b = is_heading b.heading && (list_all is_row b.rows && nat_le (length b.rows) 8191)

-- each batch comes back,
abbrev pub BatchesComeBack : Type 0
BatchesComeBack = (b : BatchContents) → is_filed b ≡ true → batch_in (batch_bytes b) ≡ Some b

-- nothing else is read as one,
abbrev pub NothingElse : Type 0
NothingElse = (text : List ℕ) (b : BatchContents) → batch_in text ≡ Some b → batch_bytes b ≡ text

-- and two batches have two texts
abbrev pub BatchesDiffer : Type 0
BatchesDiffer =
    (a b : BatchContents) → is_filed a ≡ true → is_filed b ≡ true → batch_bytes a ≡ batch_bytes b
    → a ≡ b
