-- What a note makes of a diary.
use Rattle.std.proofs.Common.{◌≡◌, ℕ, Bool, true, false, refl, ap, sym, ◌∙◌, subst, List, [], ◌∷◌, ◌++◌, length, take, drop, get_or, ◌<◌, ◌+◌, append_assoc, take-append-drop, cond}
use Rattle.std.proofs.lemmas.List.{take_more, drop_more}
use Rattle.std.specs.Prelude.{nat_lt, Result, Ok, Err}
use Rattle.iso_order.specs.Order.{Instruction}
use Rattle.iso_acquirer.specs.declared.fault.AcqFault.{AcqFault}
use Rattle.iso_acquirer.specs.declared.slot.Slot.{Slot}
use Rattle.iso_acquirer.specs.Acquirer.{slots_with, timeout}
use Rattle.iso_restarts.specs.declared.note.Note.{Note}
use Rattle.iso_restarts.specs.declared.note.Note.TheVariants.{Begun, TimedOut}
use Rattle.iso_restarts.specs.Diary.{Diary, written, in_memory, writes, begins, times_out, times_out_by, slots_asked, slots_noted, slots_after, party_after}
use Rattle.iso_restarts.specs.NoteLaws.{NotesFollow}
use Rattle.iso_restarts.specs.Replayed.{CanNote, CanBeWritten}

pub id-begun : (d : Diary) (o : Instruction) → (begins d o).id ≡ d.id
id-begun d o = go (nat_lt (length (in_memory d).slots) 999999)
  where
    go : (b : Bool) → (cond b (writes d (Begun o)) d).id ≡ d.id
    go true = refl
    go false = refl

pub id-timed-out : (d : Diary) (stan : ℕ) → (times_out d stan).id ≡ d.id
id-timed-out d stan = go (timeout (in_memory d).slots stan)
  where
    go : (r : Result (Instruction × List Slot) AcqFault) → (times_out_by d stan r).id ≡ d.id
    go (Ok asked) = refl
    go (Err fault) = refl

-- ---- notes that are gone through, one after another

note-next : (notes : List Note) (i : ℕ) (n : Note) → i < length notes → n ≡ get_or notes i n → take (i + 1) notes ≡ take i notes ++ n ∷ []
note-next notes i n lt is = take_more notes i n lt ∙ ap (λ (x : Note). take i notes ++ x ∷ []) (sym is)

note-split : (notes : List Note) (i : ℕ) (n : Note) → i < length notes → n ≡ get_or notes i n → notes ≡ take i notes ++ n ∷ drop (i + 1) notes
note-split notes i n lt is =
    sym (take-append-drop i notes) ∙ ap (λ (l : List Note). take i notes ++ l) (drop_more notes i n lt ∙ ap (λ (x : Note). x ∷ drop (i + 1) notes) (sym is))

-- ---- what is kept once they are written

module _ (follow : NotesFollow) where
  -- what is kept once a note is written
  pub slots-wrote : (d : Diary) (n : Note) → (in_memory (writes d n)).slots ≡ slots_noted (in_memory d).slots n
  slots-wrote d n = ap (slots_after []) (sym (append_assoc d.synced d.pending (n ∷ []))) ∙ follow.behind [] (written d) (n ∷ [])

  pub slots-begun : (d : Diary) (o : Instruction) → nat_lt (length (in_memory d).slots) 999999 ≡ true → (in_memory (begins d o)).slots ≡ slots_with (in_memory d).slots o
  slots-begun d o left = ap (λ b. (in_memory (cond b (writes d (Begun o)) d)).slots) left ∙ slots-wrote d (Begun o)

  pub slots-timed-out : (d : Diary) (stan : ℕ) → (in_memory (times_out d stan)).slots ≡ slots_asked (in_memory d).slots (timeout (in_memory d).slots stan)
  slots-timed-out d stan = go (timeout (in_memory d).slots stan) refl
    where
      go : (r : Result (Instruction × List Slot) AcqFault) → timeout (in_memory d).slots stan ≡ r → (in_memory (times_out_by d stan r)).slots ≡ slots_asked (in_memory d).slots r
      go (Ok asked) e = slots-wrote d (TimedOut stan) ∙ ap (slots_asked (in_memory d).slots) e
      go (Err fault) e = refl

  -- notes that are gone through, one after another
  pub slots-next : (notes : List Note) (i : ℕ) (n : Note) → i < length notes → n ≡ get_or notes i n → slots_after [] (take (i + 1) notes) ≡ slots_noted (slots_after [] (take i notes)) n
  slots-next notes i n lt is = ap (slots_after []) (note-next notes i n lt is) ∙ follow.behind [] (take i notes) (n ∷ [])

  pub can-next : (id : ℕ) (notes : List Note) (i : ℕ) (n : Note) → i < length notes → n ≡ get_or notes i n → CanBeWritten (party_after id []) notes → CanNote (party_after id (take i notes)) n
  can-next id notes i n lt is can =
      follow.each id (take i notes) (drop (i + 1) notes) n (subst (CanBeWritten (party_after id [])) (note-split notes i n lt is) can)
