-- Which transactions are open, where what the acquirer holds changes.
use Rattle.std.proofs.Common.{◌≡◌, ◌≢◌, ℕ, Bool, true, false, refl, arith, ap, sym, ◌∙◌, List, [], ◌∷◌, ◌++◌, length, ◌+◌, cond, inl, inr}
use Rattle.std.specs.Prelude.{◌==◌, ◌||◌, ◌⊎◌, not, Option, Some, None, option_and_then, nat_lt}
use Rattle.std.specs.Option.{option_or}
use Rattle.std.proofs.lemmas.Bool.{eqb-true, eqb-false}
use Rattle.iso_order.specs.declared.key.TxKey.{TxKey}
use Rattle.iso_order.specs.Key.{same_key}
use Rattle.iso_order.specs.Order.{Instruction}
use Rattle.iso_acquirer.specs.declared.slot.Slot.{Slot}
use Rattle.iso_acquirer.specs.declared.slot.Role.{Role as Part}
use Rattle.iso_acquirer.specs.declared.slot.Role.TheVariants.{Transaction, Reversal}
use Rattle.iso_acquirer.specs.declared.slot.Stage.{Stage}
use Rattle.iso_acquirer.specs.declared.slot.Stage.TheVariants as phase
use Rattle.iso_acquirer.specs.Acquirer.{slot_at, state_of, state_in_role, state_at_stage, on_stage, slots_at_stage, slots_with, transaction_of, timeout, timeout_in_role, timeout_at_stage, next_reversal, reversal_for, stage_after, stage_after_undo, slots_after_answer, slots_after_answer_of_slot, slots_after_answer_in_role}
use Rattle.iso_acquirer.specs.Agreement.{is_closed}
use Rattle.iso_restarts.specs.Diary.{slots_asked}
use Rattle.iso_drive.specs.Open.{is_open, is_open_at}
use Rattle.iso_drive.specs.Made.{AreInRow}
use Rattle.iso_drive.proofs.Row.{found, slot-other, slot-same, slot-more}

-- ---- states after a change

pub state-found : (slots : List Slot) (n : ℕ) (s : Slot) → slot_at slots n ≡ Some s → state_of slots n ≡ state_in_role s.role
state-found slots n s h = ap (option_and_then (λ s. state_in_role s.role)) h

pub state-other : (step : Stage → Stage) (m : ℕ) (slots : List Slot) (n : ℕ) → m ≢ n → state_of (slots_at_stage step m slots) n ≡ state_of slots n
state-other step m slots n apart = ap (option_and_then (λ s. state_in_role s.role)) (slot-other step m slots n apart)

pub state-same : (step : Stage → Stage) (m : ℕ) (slots : List Slot) (s : Slot) → slot_at slots m ≡ Some s → state_of (slots_at_stage step m slots) m ≡ state_in_role (on_stage step s.role)
state-same step m slots s there = ap (option_and_then (λ s. state_in_role s.role)) (slot-same step m slots s there)

-- one that isn't made has no state
pub state-none : (slots : List Slot) (n : ℕ) → slot_at slots n ≡ None → state_of slots n ≡ None
state-none slots n h = ap (option_and_then (λ s. state_in_role s.role)) h

-- one more, of the next number
state-more : (slots : List Slot) (s : Slot) (n : ℕ) → (f : Option Slot) → slot_at slots n ≡ f → (b : Bool) → (s.order.key.stan == n) ≡ b →
    state_of (slots ++ s ∷ []) n ≡ option_and_then (λ s. state_in_role s.role) (option_or f (cond b (Some s) None))
state-more slots s n f h b e =
    ap (option_and_then (λ s. state_in_role s.role)) (slot-more slots s n ∙ ap (λ (x : Option Slot). option_or x (cond (s.order.key.stan == n) (Some s) None)) h ∙ ap (λ c. option_or f (cond c (Some s) None)) e)

-- ---- which are open

-- a purchase that begins is open, and the others stay as they were
pub open-begun : (slots : List Slot) (o : Instruction) (n : ℕ) → AreInRow 1 slots → o.key.stan ≡ length slots + 1 →
    is_open_at (slots_with slots o) n ≡ (is_open_at slots n || (o.key.stan == n))
open-begun slots o n row next = go (slot_at slots n) refl (o.key.stan == n) refl
  where
    go : (f : Option Slot) → slot_at slots n ≡ f → (b : Bool) → (o.key.stan == n) ≡ b → is_open_at (slots_with slots o) n ≡ (is_open_at slots n || (o.key.stan == n))
    go None h true e = rw (state-more slots (transaction_of o) n None h true e, state-none slots n h, e) refl
    go None h false e = rw (state-more slots (transaction_of o) n None h false e, state-none slots n h, e) refl
    go (Some s) h true e =
        let at = found slots 1 n s row h in
        absurd (let is : o.key.stan ≡ n = eqb-true o.key.stan n e in omega (arith, at.2, next, is))
    go (Some s) h false e = rw (state-more slots (transaction_of o) n (Some s) h false e, state-found slots n s h, e) (or-none (is_open (state_in_role s.role)))
      where
        or-none : (b : Bool) → b ≡ (b || false)
        or-none true = refl
        or-none false = refl

-- a reversal that is made is none
open-reversal : (slots : List Slot) (r : Slot) (k n : ℕ) → r.role ≡ Reversal k → is_open_at (slots ++ r ∷ []) n ≡ is_open_at slots n
open-reversal slots r k n role = go (slot_at slots n) refl (r.order.key.stan == n) refl
  where
    go : (f : Option Slot) → slot_at slots n ≡ f → (b : Bool) → (r.order.key.stan == n) ≡ b → is_open_at (slots ++ r ∷ []) n ≡ is_open_at slots n
    go None h true e = rw (state-more slots r n None h true e, state-none slots n h, role) refl
    go None h false e = rw (state-more slots r n None h false e, state-none slots n h) refl
    go (Some s) h b e = rw (state-more slots r n (Some s) h b e, state-found slots n s h) refl

-- a step from open to open
open-step : (step : Stage → Stage) (m : ℕ) (slots : List Slot) (s : Slot) (stage : Stage) (n : ℕ) → slot_at slots m ≡ Some s → s.role ≡ Transaction stage →
    is_closed (state_at_stage stage) ≡ is_closed (state_at_stage (step stage)) → is_open_at (slots_at_stage step m slots) n ≡ is_open_at slots n
open-step step m slots s stage n there is same = go (m == n) refl
  where
    go : (b : Bool) → (m == n) ≡ b → is_open_at (slots_at_stage step m slots) n ≡ is_open_at slots n
    go true e =
        let at : m ≡ n = eqb-true m n e in
        let old : is_open_at slots m ≡ not (is_closed (state_at_stage stage)) = ap is_open (state-found slots m s there ∙ ap state_in_role is) in
        let new : is_open_at (slots_at_stage step m slots) m ≡ not (is_closed (state_at_stage (step stage))) = ap is_open (state-same step m slots s there ∙ ap (λ r. state_in_role (on_stage step r)) is) in
        ap (is_open_at (slots_at_stage step m slots)) (sym at) ∙ new ∙ sym (ap not same) ∙ sym old ∙ ap (is_open_at slots) at
    go false e = ap is_open (state-other step m slots n (eqb-false m n e))

-- a time-out closes nothing, and begins nothing
pub open-asked : (slots : List Slot) (m n : ℕ) → AreInRow 1 slots → is_open_at (slots_asked slots (timeout slots m)) n ≡ is_open_at slots n
open-asked slots m n row = at (slot_at slots m) refl
  where
    waits : (s : Slot) (k : ℕ) → slot_at slots s.order.key.stan ≡ Some s → s.role ≡ Transaction (phase.Waiting k) → (a b : Bool) → (k == 1) ≡ a → nat_lt (length slots) 999999 ≡ b →
        is_open_at (slots_asked slots (timeout_at_stage slots s.order (phase.Waiting k))) n ≡ is_open_at slots n
    waits s k there is true b e f = rw e (open-step (λ _. phase.Waiting 2) s.order.key.stan slots s (phase.Waiting k) n there is refl)
    waits s k there is false true e f = rw (e, f)
        (open-reversal (slots_at_stage (λ _. phase.Reversing (next_reversal slots s.order).key.stan) s.order.key.stan slots) (reversal_for s.order.key.stan (next_reversal slots s.order)) s.order.key.stan n refl
        ∙ open-step (λ _. phase.Reversing (next_reversal slots s.order).key.stan) s.order.key.stan slots s (phase.Waiting k) n there is refl)
    waits s k there is false false e f = rw (e, f) refl

    by_stage : (s : Slot) (stage : Stage) → slot_at slots s.order.key.stan ≡ Some s → s.role ≡ Transaction stage → is_open_at (slots_asked slots (timeout_at_stage slots s.order stage)) n ≡ is_open_at slots n
    by_stage s (phase.Waiting k) there is = waits s k there is (k == 1) (nat_lt (length slots) 999999) refl refl
    by_stage s (phase.Reversing u) there is = refl
    by_stage s phase.Approved there is = refl
    by_stage s (phase.Declined c) there is = refl
    by_stage s (phase.Reversed u) there is = refl

    by_role : (s : Slot) (role : Part) → slot_at slots m ≡ Some s → s.role ≡ role → is_open_at (slots_asked slots (timeout_in_role slots s.order role)) n ≡ is_open_at slots n
    by_role s (Transaction stage) there is = by_stage s stage (ap (slot_at slots) (found slots 1 m s row there).0 ∙ there) is
    by_role s (Reversal k) there is = refl

    at : (f : Option Slot) → slot_at slots m ≡ f → is_open_at (slots_asked slots (timeout slots m)) n ≡ is_open_at slots n
    at None h = rw h refl
    at (Some s) h = rw h (by_role s s.role h refl)

-- ---- what an answer changes

-- nothing, or the stage of one transaction
pub answer-shape : (slots : List Slot) (key : TxKey) (code : ℕ) →
    (slots_after_answer slots key code ≡ slots) ⊎ ((step : Stage → Stage) × (m : ℕ) × (slots_after_answer slots key code ≡ slots_at_stage step m slots))
answer-shape slots key code = at (slot_at slots key.stan) refl
  where
    by_role : (role : Part) → (step : Stage → Stage) × (m : ℕ) × (slots_after_answer_in_role slots key.stan code role ≡ slots_at_stage step m slots)
    by_role (Transaction stage) = (stage_after code, key.stan, refl)
    by_role (Reversal original) = (stage_after_undo code, original, refl)

    by_key : (s : Slot) → (b : Bool) → same_key s.order.key key ≡ b →
        (slots_after_answer_of_slot slots key code (Some s) ≡ slots) ⊎ ((step : Stage → Stage) × (m : ℕ) × (slots_after_answer_of_slot slots key code (Some s) ≡ slots_at_stage step m slots))
    by_key s true e =
        let one = by_role s.role in
        inr (one.0, one.1, ap (λ b. cond b (slots_after_answer_in_role slots key.stan code s.role) slots) e ∙ one.2)
    by_key s false e = inl (ap (λ b. cond b (slots_after_answer_in_role slots key.stan code s.role) slots) e)

    at : (f : Option Slot) → slot_at slots key.stan ≡ f →
        (slots_after_answer slots key code ≡ slots) ⊎ ((step : Stage → Stage) × (m : ℕ) × (slots_after_answer slots key code ≡ slots_at_stage step m slots))
    at None h = inl (ap (slots_after_answer_of_slot slots key code) h)
    at (Some s) h =
        elim (by_key s (same_key s.order.key key) refl) [
          | inl e ↦ inl (ap (slots_after_answer_of_slot slots key code) h ∙ e)
          | inr e ↦ inr (e.0, e.1, ap (slots_after_answer_of_slot slots key code) h ∙ e.2)
        ]
