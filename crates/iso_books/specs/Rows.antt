-- The entries of a journal's file.
use Rattle.std.specs.Prelude.{◌≡◌, ℕ, ◌==◌, Bool, true, false, List, [], drop, Option, Some, None, IfSome, if◌then◌else◌}
use Rattle.iso_log.specs.Slots.{records_of}
use Rattle.iso_record.specs.declared.row.Row.{Row}
use Rattle.iso_record.specs.Row.{row_in}
use Rattle.iso_books.specs.Records.{Between, IsTaken, is_clear}
use Rattle.iso_books.specs.declared.steps.Front.{Front}
use Rattle.iso_books.specs.declared.steps.Front.TheVariants.{Entry, Damaged, Clear, Torn}

-- a row, where it tells this place
abbrev pub row_if_at : ℕ → Option Row → Option Row
row_if_at place (Some r) = if r.answer.seq == place then Some r else None
row_if_at place None = None

-- the row that a record at a place is: a host writes the place into it
abbrev pub row_at : ℕ → List ℕ → Option Row
row_at place bytes = row_if_at place (row_in bytes)

-- an entry was taken from the front
abbrev pub TakesEntry : ℕ → Row → List ℕ → List ℕ → Type 0
TakesEntry place r file rest = (bytes : List ℕ) × IsTaken bytes file rest
    × (row_at place bytes ≡ Some r)

-- the record at the front is no row of this place
abbrev pub IsBadAt : ℕ → List ℕ → Type 0
IsBadAt place file = (bytes : List ℕ) × IsTaken bytes file (drop 128 file)
    × (row_at place bytes ≡ None)

-- no record is left, and whether only zeros are
abbrev pub IsAtEnd : Bool → List ℕ → Type 0
IsAtEnd clear file = (records_of file ≡ []) × (is_clear file ≡ clear)

-- what stands at the front, and what is left behind it, where the bytes are known
abbrev pub Steps : ℕ → Front → Option (List ℕ) → Option (List ℕ) → Type 0
Steps place (Entry r) old new = Between (TakesEntry place r) old new
Steps place Damaged old new = IfSome old (IsBadAt place)
Steps place Clear old new = IfSome old (IsAtEnd true)
Steps place Torn old new = IfSome old (IsAtEnd false)

-- the end of the records
abbrev pub end_front : Bool → Front
end_front true = Clear
end_front false = Torn
