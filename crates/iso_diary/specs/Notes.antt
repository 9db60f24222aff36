-- The notes of a file of records.
use Rattle.std.specs.Prelude.{◌≡◌, ℕ, List, map, take, drop, Option, Some, None}
use Rattle.iso_log.specs.declared.log.RecordLog.{RecordLog}
use Rattle.iso_log.specs.Slots.{records_of}
use Rattle.iso_restarts.specs.declared.note.Note.{Note}
use Rattle.iso_restarts.specs.declared.note.Note.TheVariants.{TimedOut}
use Rattle.iso_diary.specs.declared.line.Line.{Line}
use Rattle.iso_diary.specs.Line.{line_in}

-- where there is no note: no diary that was opened has it
abbrev pub nothing : Note
nothing = TimedOut 0

-- the note of a line, if there is one
abbrev pub note_or_nothing : Option Line → Note
note_or_nothing (Some l) = l.note
note_or_nothing None = nothing

-- the note of a record
abbrev pub note_of : List ℕ → Note
note_of bytes = note_or_nothing (line_in bytes)

-- what records tell, in their order
abbrev pub notes_of : List (List ℕ) → List Note
notes_of records = map note_of records

-- the notes of a diary: of all its records but the first, which is the heading
abbrev pub diary_notes : List (List ℕ) → List Note
diary_notes records = notes_of (drop 1 records)

module _ {D : Type 0} (seen : D → List ℕ) (log : RecordLog D) where
  -- what is in the log's file
  abbrev pub records : List (List ℕ)
  records = records_of (seen log.disk)

  -- the notes that no crash takes away
  abbrev pub synced_notes : List Note
  synced_notes = diary_notes (take log.synced records)

  -- the notes that wait for a sync
  abbrev pub pending_notes : List Note
  pending_notes = notes_of (drop log.synced records)

-- the notes that a start finds in a file that a crash may leave
abbrev pub LeavesNotes : {D : Type 0} → (D → List ℕ → Type 0) → RecordLog D → List Note → Type 0
LeavesNotes may_leave log notes = (c : List ℕ) × may_leave log.disk c
    × (notes ≡ diary_notes (records_of c))
