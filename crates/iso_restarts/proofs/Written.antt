-- A note is written: what the acquirer is then, what it has to send, and what a crash may leave.
use Rattle.std.proofs.Common.{◌≡◌, ℕ, zero, suc, Bool, true, false, refl, ap, sym, ◌∙◌, List, [], ◌∷◌, ◌++◌, length, take, append_assoc, append-nil, cond}
use Rattle.std.specs.Prelude.{nat_lt, Result, Ok, Err}
use Rattle.iso_order.specs.Order.{Instruction}
use Rattle.iso_acquirer.specs.declared.fault.AcqFault.{AcqFault}
use Rattle.iso_acquirer.specs.declared.slot.Slot.{Slot}
use Rattle.iso_acquirer.specs.Acquirer.{Party, slots_with, timeout}
use Rattle.iso_restarts.specs.declared.note.Note.{Note}
use Rattle.iso_restarts.specs.declared.note.Note.TheVariants.{Begun, TimedOut}
use Rattle.iso_restarts.specs.declared.durable.DurableAcquirer.{DurableAcquirer}
use Rattle.iso_restarts.specs.Diary.{Diary, written, on_disk, in_memory, unsent, MayLeave, writes, begins, times_out, times_out_by, slots_asked, orders_asked, orders_noted, slots_after}
use Rattle.iso_restarts.specs.Replayed.{party_noted}
use Rattle.iso_restarts.specs.Durable.{diary_of, IsConsistent}
use Rattle.iso_restarts.proofs.Noted.{slots-join, orders-join}

-- ---- of a diary

pub memory-writes : (d : Diary) (n : Note) → in_memory (writes d n) ≡ party_noted (in_memory d) n
memory-writes d n =
    ap (λ (l : List Slot). record { id = d.id; slots = l })
    (ap (slots_after []) (sym (append_assoc d.synced d.pending (n ∷ []))) ∙ slots-join [] (written d) (n ∷ []))

pub unsent-writes : (d : Diary) (n : Note) → unsent (writes d n) ≡ unsent d ++ orders_noted (in_memory d).slots n
unsent-writes d n =
    let here : slots_after (on_disk d).slots d.pending ≡ (in_memory d).slots = sym (slots-join [] d.synced d.pending) in
    orders-join (on_disk d).slots d.pending (n ∷ [])
    ∙ ap (λ (l : List Instruction). unsent d ++ l) (append-nil (orders_noted (slots_after (on_disk d).slots d.pending) n))
    ∙ ap (λ (l : List Slot). unsent d ++ orders_noted l n) here

pub front-more : (xs ys : List Note) (n : ℕ) → (m : ℕ) × (take n xs ≡ take m (xs ++ ys))
front-more xs ys zero = (0, refl)
front-more [] ys (suc n) = (0, refl)
front-more (x ∷ xs) ys (suc n) = let rest = front-more xs ys n in (suc rest.0, ap (λ (l : List Note). x ∷ l) rest.1)

-- what a crash may leave before a note is written, it may leave after it
pub left-more : (d : Diary) (n : Note) (c : List Note) → MayLeave d c → MayLeave (writes d n) c
left-more d n c left =
    let more = front-more d.pending (n ∷ []) left.0 in
    (more.0, left.1 ∙ ap (λ (l : List Note). d.synced ++ l) more.1)

-- the same of a payment, and of a time-out
pub left-begins : (d : Diary) (o : Instruction) (c : List Note) → MayLeave d c → MayLeave (begins d o) c
left-begins d o c left = go (nat_lt (length (in_memory d).slots) 999999)
  where
    go : (b : Bool) → MayLeave (cond b (writes d (Begun o)) d) c
    go true = left-more d (Begun o) c left
    go false = left

pub left-times-out : (d : Diary) (stan : ℕ) (c : List Note) → MayLeave d c → MayLeave (times_out d stan) c
left-times-out d stan c left = go (timeout (in_memory d).slots stan)
  where
    go : (r : Result (Instruction × List Slot) AcqFault) → MayLeave (times_out_by d stan r) c
    go (Ok asked) = left-more d (TimedOut stan) c left
    go (Err fault) = left

some-there : (ns : List Note) (n : Note) → ns ++ n ∷ [] ≡ [] → ⊥
some-there [] n h = cc
some-there (x ∷ ns) n h = cc

-- ---- of an acquirer over its log

module _ {L : Type 0} (is_ready : L → Type 0) (synced pending : L → List Note) (old new : DurableAcquirer L) (is : IsConsistent is_ready synced pending old) where
  -- it has one note more
  pub record Wrote (n : Note) : Type 0 where
    pub ready : is_ready new.log
    pub party : new.acquirer ≡ party_noted old.acquirer n
    pub orders : new.unsent.items ≡ old.unsent.items ++ orders_noted old.acquirer.slots n
    pub synced_is : synced new.log ≡ synced old.log
    pub pending_is : pending new.log ≡ pending old.log ++ n ∷ []
    pub waits : new.waits ≡ true

  pub diary-wrote : (n : Note) → Wrote n → diary_of synced pending new ≡ writes (diary_of synced pending old) n
  diary-wrote n h =
      ap (λ (p : Party). record { id = p.id; synced = synced new.log; pending = pending new.log }) h.party
      ∙ ap (λ (l : List Note). record { id = old.acquirer.id; synced = l; pending = pending new.log }) h.synced_is
      ∙ ap (λ (l : List Note). record { id = old.acquirer.id; synced = synced old.log; pending = l }) h.pending_is

  pub consistent-wrote : (n : Note) → Wrote n → IsConsistent is_ready synced pending new
  consistent-wrote n h =
      let before = diary_of synced pending old in
      let diary = diary-wrote n h in
      record {
        ready = h.ready;
        same = h.party ∙ ap (λ (p : Party). party_noted p n) is.same ∙ sym (memory-writes before n) ∙ ap in_memory (sym diary);
        unsent_is =
            h.orders
            ∙ ap (λ (l : List Instruction). l ++ orders_noted old.acquirer.slots n) is.unsent_is
            ∙ ap (λ (p : Party). unsent before ++ orders_noted p.slots n) is.same
            ∙ sym (unsent-writes before n)
            ∙ ap unsent (sym diary);
        none_waits = λ none. let no : true ≡ false = sym h.waits ∙ none in cc;
        some_wait = λ some none. some-there (pending old.log) n (sym h.pending_is ∙ none);
      }

-- ---- of an order that is sent

-- the list of those that wait has it behind the others
pub orders-more : (old roomy kept new : List Instruction) (o : Instruction) → new ≡ kept ++ o ∷ [] → kept ≡ roomy → roomy ≡ old → new ≡ old ++ o ∷ []
orders-more old roomy kept new o pushed same room = pushed ∙ ap (λ (l : List Instruction). l ++ o ∷ []) (same ∙ room)

-- ---- of a payment

pub party-begun : (old mid new : Party) (o debit : Instruction) → new ≡ mid → mid ≡ record { id = old.id; slots = slots_with old.slots debit } → o ≡ debit → new ≡ party_noted old (Begun o)
party-begun old mid new o debit kept begun same = kept ∙ begun ∙ ap (λ (x : Instruction). record { id = old.id; slots = slots_with old.slots x }) (sym same)

-- ---- of a time-out

pub orders-after-asked : (before after : List Instruction) (old new : List Slot) (stan : ℕ) (o : Instruction) → timeout old stan ≡ Ok (o, new) → after ≡ before ++ o ∷ []
    → after ≡ before ++ orders_noted old (TimedOut stan)
orders-after-asked before after old new stan o e more = more ∙ ap (λ (l : List Instruction). before ++ l) (sym (ap orders_asked e))

pub party-asked : (old mid new : Party) (stan : ℕ) (o : Instruction) → new ≡ mid → mid.id ≡ old.id → timeout old.slots stan ≡ Ok (o, mid.slots) → new ≡ party_noted old (TimedOut stan)
party-asked old mid new stan o kept own e =
    kept ∙ ap (λ (i : ℕ). record { id = i; slots = mid.slots }) own ∙ ap (λ (l : List Slot). record { id = old.id; slots = l }) (sym (ap (slots_asked old.slots) e))
