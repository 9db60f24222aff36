-- The records that a diary can have.
use Rattle.std.specs.Prelude.{◌≡◌, ℕ, ◌+◌, List, [], ◌∷◌, drop, Some}
use Rattle.iso_diary.specs.Line.{line_in}
use Rattle.iso_diary.specs.Notes.{note_of}

-- the record of a note, at its own place
abbrev pub IsLineAt : ℕ → List ℕ → Type 0
IsLineAt place bytes = line_in bytes ≡ Some (record { place = place; note = note_of bytes })

-- each of the records, from a place on
abbrev pub AreLines : ℕ → List (List ℕ) → Type 0
AreLines place [] = Unit
AreLines place (r ∷ rs) = IsLineAt place r × AreLines (place + 1) rs

-- all the records of a diary but the first, which is the heading
abbrev pub AreNotes : List (List ℕ) → Type 0
AreNotes records = AreLines 1 (drop 1 records)
