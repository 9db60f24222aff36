-- What holds of all notes: how they follow one another, and what a crash may leave of them.
use Rattle.std.specs.Prelude.{◌≡◌, ℕ, List, [], ◌∷◌, ◌++◌}
use Rattle.iso_order.specs.declared.key.TxKey.{TxKey}
use Rattle.iso_order.specs.Order.{Instruction}
use Rattle.iso_acquirer.specs.declared.slot.Slot.{Slot}
use Rattle.iso_restarts.specs.declared.note.Note.{Note}
use Rattle.iso_restarts.specs.Diary.{Diary, MayLeave, slots_after, party_after, begins, times_out, hears}
use Rattle.iso_restarts.specs.Replayed.{CanNote, CanBeWritten}

-- how notes follow one another
pub record NotesFollow : Type 0 where
  -- notes behind others go on from what those left
  pub behind : (slots : List Slot) (notes more : List Note)
      → slots_after slots (notes ++ more) ≡ slots_after (slots_after slots notes) more
  -- each note that an acquirer can have written can happen to it once those before it happened
  pub each : (id : ℕ) (before more : List Note) (n : Note)
      → CanBeWritten (party_after id []) (before ++ n ∷ more) → CanNote (party_after id before) n

-- what a crash may leave of the notes, it may still leave
pub record StillLeft : Type 0 where
  -- once a payment begins,
  pub begun : (d : Diary) (o : Instruction) (notes : List Note)
      → MayLeave d notes → MayLeave (begins d o) notes
  -- once no answer came in time,
  pub timed_out : (d : Diary) (stan : ℕ) (notes : List Note)
      → MayLeave d notes → MayLeave (times_out d stan) notes
  -- and once an answer came
  pub heard : (d : Diary) (key : TxKey) (code : ℕ) (notes : List Note)
      → MayLeave d notes → MayLeave (hears d key code) notes
