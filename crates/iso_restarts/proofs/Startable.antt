-- What a crash leaves of the notes, an acquirer can have written.
use Rattle.std.proofs.Common.{◌≡◌, ◌<◌, ℕ, Bool, true, false, refl, arith, ap, sym, ◌∙◌, subst, List, [], ◌∷◌, ◌++◌, length, take, drop, cond, append_assoc, append-nil, take-append-drop}
use Rattle.std.specs.Prelude.{Option, Some, None, Result, Ok, Err, nat_lt, slice_get}
use Rattle.std.proofs.lemmas.Bool.Decides.{nat_tests}
use Rattle.iso_order.specs.Pan.{AccountNumber}
use Rattle.iso_order.specs.Order.{Instruction}
use Rattle.iso_acquirer.specs.declared.event.Event.{Event as Passing}
use Rattle.iso_acquirer.specs.declared.event.Event.TheVariants.{Begin, Timeout, Deliver, Answer, Other}
use Rattle.iso_acquirer.specs.declared.event.Given.{Given}
use Rattle.iso_acquirer.specs.declared.fault.AcqFault.{AcqFault}
use Rattle.iso_acquirer.specs.declared.slot.Slot.{Slot}
use Rattle.iso_acquirer.specs.Acquirer.{Party, debit_of, timeout}
use Rattle.iso_outages.specs.World.{Passes, Syncs, Crashes}
use Rattle.iso_restarts.specs.declared.note.Note.{Note}
use Rattle.iso_restarts.specs.declared.note.Note.TheVariants.{Begun, TimedOut, Told}
use Rattle.iso_restarts.specs.Diary.{Diary, written, in_memory, MayLeave, slots_after, party_after, writes, begins, times_out_by}
use Rattle.iso_restarts.specs.Replayed.{party_noted, CanNote, CanBeWritten}
use Rattle.iso_restarts.specs.World.{World, Event, Goes, Keeps, Restarts, is_told, passes, happens, run}

-- ---- notes behind others, and notes before others

can-join : (p : Party) (xs ys : List Note) → CanBeWritten p xs → CanBeWritten (record { id = p.id; slots = slots_after p.slots xs }) ys → CanBeWritten p (xs ++ ys)
can-join p [] ys h rest = rest
can-join p (n ∷ xs) ys h rest = (h.0, can-join (party_noted p n) xs ys h.1 rest)

can-front : (p : Party) (xs ys : List Note) → CanBeWritten p (xs ++ ys) → CanBeWritten p xs
can-front p [] ys h = tt
can-front p (n ∷ xs) ys h = (h.0, can-front (party_noted p n) xs ys h.1)

-- ---- an acquirer

-- it can have written all its notes
abbrev IsStartable : Diary → Type 0
IsStartable d = CanBeWritten (party_after d.id []) (written d)

-- what a crash leaves of them too
pub left-startable : (d : Diary) (notes : List Note) → IsStartable d → MayLeave d notes → CanBeWritten (party_after d.id []) notes
left-startable d notes h left =
    let front = d.synced ++ take left.0 d.pending in
    let split : written d ≡ front ++ drop left.0 d.pending =
    ap (λ (l : List Note). d.synced ++ l) (sym (take-append-drop left.0 d.pending)) ∙ sym (append_assoc d.synced (take left.0 d.pending) (drop left.0 d.pending)) in
    subst (CanBeWritten (party_after d.id [])) (sym left.1)
    (can-front (party_after d.id []) front (drop left.0 d.pending) (subst (CanBeWritten (party_after d.id [])) split h))

writes-startable : (d : Diary) (n : Note) → IsStartable d → CanNote (in_memory d) n → IsStartable (writes d n)
writes-startable d n h can =
    subst (CanBeWritten (party_after d.id [])) (append_assoc d.synced d.pending (n ∷ [])) (can-join (party_after d.id []) (written d) (n ∷ []) h (can, tt))

begins-startable : (d : Diary) (pan : AccountNumber) (amount : ℕ) (currency : List ℕ) (at : ℕ) → IsStartable d → IsStartable (begins d (debit_of (in_memory d) pan amount currency at))
begins-startable d pan amount currency at h = go (nat_lt (length (in_memory d).slots) 999999) refl
  where
    left : nat_lt (length (in_memory d).slots) 999999 ≡ true → length (in_memory d).slots < 999999
    left e = grind (arith, nat_tests, e)

    go : (b : Bool) → nat_lt (length (in_memory d).slots) 999999 ≡ b → IsStartable (cond b (writes d (Begun (debit_of (in_memory d) pan amount currency at))) d)
    go true e = writes-startable d (Begun (debit_of (in_memory d) pan amount currency at)) h
        (record { money = record { pan = pan; amount = amount; currency = currency }; asks = refl; left = left e; same = refl })
    go false e = h

asks-startable : (d : Diary) (stan : ℕ) (r : Result (Instruction × List Slot) AcqFault) → timeout (in_memory d).slots stan ≡ r → IsStartable d → IsStartable (times_out_by d stan r)
asks-startable d stan (Ok asked) e h = writes-startable d (TimedOut stan) h (asked, e)
asks-startable d stan (Err fault) e h = h

told-startable : (w : World) (f : Option Given) → IsStartable w.acquirer → IsStartable (is_told w f).acquirer
told-startable w None h = h
told-startable w (Some g) h = writes-startable w.acquirer (Told g.key g.answer.code) h tt

all-synced : (d : Diary) (notes : List Note) → CanBeWritten (party_after d.id []) notes → IsStartable (record { id = d.id; synced = notes; pending = [] })
all-synced d notes h = subst (CanBeWritten (party_after d.id [])) (sym (append-nil notes)) h

-- ---- a run

passes-startable : (w : World) (e : Passing) → IsStartable w.acquirer → IsStartable (passes w e).acquirer
passes-startable w (Begin pan amount currency at) h = begins-startable w.acquirer pan amount currency at h
passes-startable w (Timeout stan) h = asks-startable w.acquirer stan (timeout (in_memory w.acquirer).slots stan) refl h
passes-startable w (Deliver place) h = h
passes-startable w (Answer place) h = told-startable w (slice_get w.given place) h
passes-startable w (Other o) h = h

happens-startable : (w : World) (e : Event) → IsStartable w.acquirer → IsStartable (happens w e).acquirer
happens-startable w (Goes (Passes e)) h = passes-startable w e h
happens-startable w (Goes Syncs) h = h
happens-startable w (Goes (Crashes n)) h = h
happens-startable w Keeps h = all-synced w.acquirer (written w.acquirer) h
happens-startable w (Restarts k) h =
    all-synced w.acquirer (w.acquirer.synced ++ take k w.acquirer.pending) (left-startable w.acquirer (w.acquirer.synced ++ take k w.acquirer.pending) h (k, refl))

pub run-startable : (es : List Event) (w : World) → IsStartable w.acquirer → IsStartable (run es w).acquirer
run-startable [] w h = h
run-startable (e ∷ es) w h = run-startable es (happens w e) (happens-startable w e h)
