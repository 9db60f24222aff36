-- A transaction comes to another stage.
use Rattle.std.proofs.Common.{◌≡◌, ℕ, Bool, true, false, refl, ap, sym, ◌∙◌, subst, List, [], ◌∷◌, cond}
use Rattle.std.specs.Prelude.{◌==◌, Option, Some, None, option_map, if◌then◌else◌}
use Rattle.std.specs.List.{AllByRecursion}
use Rattle.std.proofs.lemmas.Option.{same_Some}
use Rattle.std.proofs.lemmas.Bool.{eqb-true}
use Rattle.iso_order.specs.Order.{Instruction}
use Rattle.iso_issuer.specs.declared.journal.Entry.{Entry}
use Rattle.iso_acquirer.specs.declared.event.Given.{Given}
use Rattle.iso_acquirer.specs.declared.slot.Slot.{Slot}
use Rattle.iso_acquirer.specs.declared.slot.Role.{Role}
use Rattle.iso_acquirer.specs.declared.slot.Role.TheVariants.{Transaction, Reversal}
use Rattle.iso_acquirer.specs.declared.slot.Stage.{Stage}
use Rattle.iso_acquirer.specs.Acquirer.{slot_at, order_at, undo_of, on_stage, slot_at_stage, slots_at_stage}
use Rattle.iso_acquirer.specs.Room.{AreNumbered}
use Rattle.iso_acquirer.specs.Agreed.{IsStageOf, IsReversal, IsRole, IsSlot, IsKnown, IsAgreed}
use Rattle.iso_acquirer.proofs.Lists.{all-weaker}
use Rattle.iso_acquirer.proofs.Numbered.{found, numbered-changed}

-- what is kept after a change
abbrev pub changed_slot : (Stage → Stage) → ℕ → Slot → Slot
changed_slot step stan s = if s.order.key.stan == stan then slot_at_stage step s else s

pub slot-changed : (step : Stage → Stage) (stan : ℕ) (slots : List Slot) (n : ℕ) → slot_at (slots_at_stage step stan slots) n ≡ option_map (changed_slot step stan) (slot_at slots n)
slot-changed step stan [] n = refl
slot-changed step stan (s ∷ ss) n = by_tests (s.order.key.stan == stan) (s.order.key.stan == n) refl refl (slot-changed step stan ss n)
  where
    by_tests : (b c : Bool) → (s.order.key.stan == stan) ≡ b → (s.order.key.stan == n) ≡ c → slot_at (slots_at_stage step stan ss) n ≡ option_map (changed_slot step stan) (slot_at ss n) →
        cond ((cond b (slot_at_stage step s) s).order.key.stan == n) (Some (cond b (slot_at_stage step s) s)) (slot_at (slots_at_stage step stan ss) n) ≡ option_map (changed_slot step stan) (cond c (Some s) (slot_at ss n))
    by_tests true true e f rest = rw (f, e) refl
    by_tests true false e f rest = rw f rest
    by_tests false true e f rest = rw (f, e) refl
    by_tests false false e f rest = rw f rest

-- a reversal that there is stays
abbrev pub KeepsUndo : List Slot → (Stage → Stage) → ℕ → Type 0
KeepsUndo slots step stan = (s : Slot) (stage : Stage) (u : Instruction) → slot_at slots stan ≡ Some s → s.role ≡ Transaction stage → undo_of s.order stage ≡ Some u → undo_of s.order (step stage) ≡ Some u

changed-order : (step : Stage → Stage) (stan : ℕ) (s : Slot) → (changed_slot step stan s).order ≡ s.order
changed-order step stan s = go (s.order.key.stan == stan)
  where
    go : (b : Bool) → (cond b (slot_at_stage step s) s).order ≡ s.order
    go true = refl
    go false = refl

pub changed-found : (step : Stage → Stage) (stan : ℕ) (slots : List Slot) (n : ℕ) (s : Slot) → slot_at slots n ≡ Some s → slot_at (slots_at_stage step stan slots) n ≡ Some (changed_slot step stan s)
changed-found step stan slots n s h = slot-changed step stan slots n ∙ ap (option_map (changed_slot step stan)) h

pub changed-back : (step : Stage → Stage) (stan : ℕ) (slots : List Slot) (n : ℕ) (t : Slot) → slot_at (slots_at_stage step stan slots) n ≡ Some t →
    (s : Slot) × (slot_at slots n ≡ Some s) × (changed_slot step stan s ≡ t)
changed-back step stan slots n t h = go (slot_at slots n) refl (sym (slot-changed step stan slots n) ∙ h)
  where
    go : (f : Option Slot) → slot_at slots n ≡ f → option_map (changed_slot step stan) f ≡ Some t → (s : Slot) × (slot_at slots n ≡ Some s) × (changed_slot step stan s ≡ t)
    go None e g = cc
    go (Some s) e g = (s, e, same_Some _ t g)

pub order-changed : (step : Stage → Stage) (stan : ℕ) (slots : List Slot) (n : ℕ) → order_at (slots_at_stage step stan slots) n ≡ order_at slots n
order-changed step stan slots n = ap (option_map (λ s. s.order)) (slot-changed step stan slots n) ∙ go (slot_at slots n)
  where
    go : (f : Option Slot) → option_map (λ s. s.order) (option_map (changed_slot step stan) f) ≡ option_map (λ s. s.order) f
    go None = refl
    go (Some s) = ap Some (changed-order step stan s)

-- what is sent, entered and kept is known as before
pub known-changed : (id : ℕ) (step : Stage → Stage) (stan : ℕ) (slots : List Slot) (entries : List Entry) → AllByRecursion (IsKnown id slots) entries → AllByRecursion (IsKnown id (slots_at_stage step stan slots)) entries
known-changed id step stan slots entries all =
    all-weaker (IsKnown id slots) (IsKnown id (slots_at_stage step stan slots)) entries
    (λ e known. record { valid = known.valid; own = λ o. order-changed step stan slots e.order.key.stan ∙ known.own o }) all

pub sent-changed : (step : Stage → Stage) (stan : ℕ) (slots : List Slot) (sent : List Instruction) → AllByRecursion (λ o. order_at slots o.key.stan ≡ Some o) sent →
    AllByRecursion (λ o. order_at (slots_at_stage step stan slots) o.key.stan ≡ Some o) sent
sent-changed step stan slots sent all =
    all-weaker (λ (o : Instruction). order_at slots o.key.stan ≡ Some o) (λ (o : Instruction). order_at (slots_at_stage step stan slots) o.key.stan ≡ Some o) sent
    (λ o known. order-changed step stan slots o.key.stan ∙ known) all

-- a reversal stays that of its transaction
pub reversal-changed : (step : Stage → Stage) (stan : ℕ) (slots : List Slot) (n : ℕ) (o : Instruction) → AreNumbered 1 slots → KeepsUndo slots step stan → IsReversal slots n o → IsReversal (slots_at_stage step stan slots) n o
reversal-changed step stan slots n o numbered keeps u = by_test (u.original.order.key.stan == stan) refl
  where
    by_test : (b : Bool) → (u.original.order.key.stan == stan) ≡ b → IsReversal (slots_at_stage step stan slots) n o
    by_test true e =
        let at : n ≡ stan = sym (found slots 1 n u.original numbered u.found).0 ∙ eqb-true u.original.order.key.stan stan e in
        record {
          original = slot_at_stage step u.original;
          stage = step u.stage;
          found = changed-found step stan slots n u.original u.found ∙ ap (λ b. Some (cond b (slot_at_stage step u.original) u.original)) e;
          transaction = ap (on_stage step) u.transaction;
          kept = keeps u.original u.stage o (ap (slot_at slots) (sym at) ∙ u.found) u.transaction u.kept;
          names = u.names;
        }
    by_test false e = record {
      original = u.original;
      stage = u.stage;
      found = changed-found step stan slots n u.original u.found ∙ ap (λ b. Some (cond b (slot_at_stage step u.original) u.original)) e;
      transaction = u.transaction;
      kept = u.kept;
      names = u.names;
    }

-- a change of stage that holds for the transaction of that trace number
module _ (id : ℕ) (slots : List Slot) (sent : List Instruction) (given : List Given) (entries : List Entry) (step : Stage → Stage) (stan : ℕ)
    (w : IsAgreed id slots sent given entries) (keeps : KeepsUndo slots step stan)
    (holds : (s : Slot) (stage : Stage) → slot_at slots stan ≡ Some s → s.role ≡ Transaction stage → IsStageOf entries s.order.key stage → IsStageOf entries s.order.key (step stage))
    (undone : (s : Slot) (stage : Stage) (u : Instruction) → slot_at slots stan ≡ Some s → s.role ≡ Transaction stage → undo_of s.order (step stage) ≡ Some u → order_at slots u.key.stan ≡ Some u) where
  stepped-role : (s : Slot) → slot_at slots stan ≡ Some s → (role : Role) → s.role ≡ role → IsRole entries slots s.order role → IsRole entries (slots_at_stage step stan slots) s.order (on_stage step role)
  stepped-role s here (Transaction stage) is h = record {
    base = h.base;
    money = h.money;
    debit = h.debit;
    held = holds s stage here is h.held;
    undone = λ u e. order-changed step stan slots u.key.stan ∙ undone s stage u here is e;
  }
  stepped-role s here (Reversal n) is h = reversal-changed step stan slots n s.order w.numbered keeps h

  other-role : (o : Instruction) (role : Role) → IsRole entries slots o role → IsRole entries (slots_at_stage step stan slots) o role
  other-role o (Transaction stage) h = record {
    base = h.base;
    money = h.money;
    debit = h.debit;
    held = h.held;
    undone = λ u e. order-changed step stan slots u.key.stan ∙ h.undone u e;
  }
  other-role o (Reversal n) h = reversal-changed step stan slots n o w.numbered keeps h

  slot-stays : (n : ℕ) (s : Slot) → slot_at slots n ≡ Some s → (b : Bool) → (s.order.key.stan == stan) ≡ b → IsSlot id entries (slots_at_stage step stan slots) (cond b (slot_at_stage step s) s)
  slot-stays n s here true e =
      let old = w.slots_hold n s here in
      let at : n ≡ stan = sym (found slots 1 n s w.numbered here).0 ∙ eqb-true s.order.key.stan stan e in
      record { own = old.own; role = stepped-role s (ap (slot_at slots) (sym at) ∙ here) s.role refl old.role }
  slot-stays n s here false e = let old = w.slots_hold n s here in record { own = old.own; role = other-role s.order s.role old.role }

  pub slots-changed : (n : ℕ) (t : Slot) → slot_at (slots_at_stage step stan slots) n ≡ Some t → IsSlot id entries (slots_at_stage step stan slots) t
  slots-changed n t there =
      let back = changed-back step stan slots n t there in
      subst (IsSlot id entries (slots_at_stage step stan slots)) back.2 (slot-stays n back.0 back.1 (back.0.order.key.stan == stan) refl)

  pub agreed-changed : IsAgreed id (slots_at_stage step stan slots) sent given entries
  agreed-changed = record {
    numbered = numbered-changed step stan slots 1 w.numbered;
    slots_hold = slots-changed;
    entries_known = known-changed id step stan slots entries w.entries_known;
    sent_known = sent-changed step stan slots sent w.sent_known;
    given_kept = w.given_kept;
  }
