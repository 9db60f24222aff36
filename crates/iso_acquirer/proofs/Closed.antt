-- What is closed stays.
use Rattle.std.proofs.Common.{◌≡◌, ℕ, Bool, true, false, refl, arith, ap, sym, ◌∙◌, subst, List, [], ◌∷◌, ◌++◌, length, ◌+◌, cond}
use Rattle.std.specs.Prelude.{◌==◌, Option, Some, None, option_and_then, nat_lt, Result, Ok, Err, OnOk, OnErr}
use Rattle.std.proofs.lemmas.Option.{same_Some}
use Rattle.std.proofs.lemmas.Bool.{eqb-true}
use Rattle.iso_order.specs.declared.key.TxKey.{TxKey}
use Rattle.iso_order.specs.Key.{same_key}
use Rattle.iso_order.specs.Order.{Instruction}
use Rattle.iso_acquirer.specs.declared.event.Event.{Event}
use Rattle.iso_acquirer.specs.declared.event.Event.TheVariants.{Begin, Timeout, Deliver, Answer, Other}
use Rattle.iso_acquirer.specs.declared.fault.AcqFault.{AcqFault}
use Rattle.iso_acquirer.specs.declared.fault.AcqFault.TheVariants.{NoMoreTrace, NoSuch, Closed}
use Rattle.iso_acquirer.specs.declared.fault.StepFault.{StepFault}
use Rattle.iso_acquirer.specs.declared.slot.Slot.{Slot}
use Rattle.iso_acquirer.specs.declared.slot.Role.{Role}
use Rattle.iso_acquirer.specs.declared.slot.Role.TheVariants.{Transaction, Reversal}
use Rattle.iso_acquirer.specs.declared.slot.Stage.{Stage}
use Rattle.iso_acquirer.specs.declared.slot.Stage.TheVariants.{Waiting, Reversing, Approved, Declined, Reversed}
use Rattle.iso_acquirer.specs.declared.state.State.{State}
use Rattle.iso_acquirer.specs.Acquirer.{slot_at, state_at_stage, state_in_role, state_of, on_stage, slot_at_stage, slots_at_stage, reversal_for, stage_after, stage_after_undo, slots_after_answer, slots_after_answer_in_role, slots_after_answer_of_slot, reversal_under, next_reversal, slots_with_reversal, timeout, timeout_of_slot, timeout_in_role, timeout_at_stage}
use Rattle.iso_acquirer.specs.Room.{AreNumbered}
use Rattle.iso_acquirer.specs.World.{World, IsMade, IsRan, IsStep, refusal_count}
use Rattle.iso_acquirer.specs.Agreed.{IsSound}
use Rattle.iso_acquirer.specs.Agreement.{is_closed, StaysClosed}
use Rattle.iso_acquirer.proofs.Numbered.{found}
use Rattle.iso_acquirer.proofs.Clauses.{same_stage}
use Rattle.iso_acquirer.proofs.Changed.{changed-found}
use Rattle.iso_acquirer.proofs.Begun.{slot-more}
use Rattle.iso_acquirer.proofs.TimedOut.{ok_is, err_not}

-- the same of what is kept
abbrev StaysIn : List Slot → List Slot → Type 0
StaysIn old new = (stan : ℕ) (state : State) → state_of old stan ≡ Some state → is_closed state ≡ true → state_of new stan ≡ Some state

stays-same : (slots : List Slot) → StaysIn slots slots
stays-same slots stan state told closed = told

stays-pushed : (slots : List Slot) (t : Slot) → StaysIn slots (slots ++ t ∷ [])
stays-pushed slots t stan state told closed = by_slot (slot_at slots stan) refl told
  where
    by_slot : (f : Option Slot) → slot_at slots stan ≡ f → option_and_then (λ s. state_in_role s.role) f ≡ Some state → state_of (slots ++ t ∷ []) stan ≡ Some state
    by_slot None e told = cc
    by_slot (Some s) e told = ap (option_and_then (λ (s : Slot). state_in_role s.role)) (slot-more slots t stan s e) ∙ told

stays-changed : (step : Stage → Stage) (m : ℕ) (slots : List Slot) → AreNumbered 1 slots →
    ((s : Slot) (stage : Stage) → slot_at slots m ≡ Some s → s.role ≡ Transaction stage → is_closed (state_at_stage stage) ≡ true → state_at_stage (step stage) ≡ state_at_stage stage) → StaysIn slots (slots_at_stage step m slots)
stays-changed step m slots numbered keeps stan state told closed = by_slot (slot_at slots stan) refl told
  where
    by_role : (s : Slot) → slot_at slots m ≡ Some s → (role : Role) → s.role ≡ role → state_in_role role ≡ Some state → state_in_role (on_stage step role) ≡ Some state
    by_role s here (Transaction stage) role told =
        let final : is_closed (state_at_stage stage) ≡ true = ap is_closed (same_Some (state_at_stage stage) state told) ∙ closed in
        ap Some (keeps s stage here role final) ∙ told
    by_role s here (Reversal k) role told = cc

    by_test : (s : Slot) → slot_at slots stan ≡ Some s → (b : Bool) → (s.order.key.stan == m) ≡ b → state_in_role s.role ≡ Some state → state_in_role (cond b (slot_at_stage step s) s).role ≡ Some state
    by_test s here true e told =
        let at : stan ≡ m = sym (found slots 1 stan s numbered here).0 ∙ eqb-true s.order.key.stan m e in
        by_role s (ap (slot_at slots) (sym at) ∙ here) s.role refl told
    by_test s here false e told = told

    by_slot : (f : Option Slot) → slot_at slots stan ≡ f → option_and_then (λ s. state_in_role s.role) f ≡ Some state → state_of (slots_at_stage step m slots) stan ≡ Some state
    by_slot None e told = cc
    by_slot (Some s) e told = ap (option_and_then (λ (s : Slot). state_in_role s.role)) (changed-found step m slots stan s e) ∙ by_test s e (s.order.key.stan == m) refl told

-- an answer changes nothing that is closed
after-stays : (code : ℕ) (stage : Stage) → is_closed (state_at_stage stage) ≡ true → state_at_stage (stage_after code stage) ≡ state_at_stage stage
after-stays code (Waiting n) h = cc
after-stays code (Reversing u) h = cc
after-stays code Approved h = refl
after-stays code (Declined c) h = refl
after-stays code (Reversed u) h = refl

undone-stays : (code : ℕ) (stage : Stage) → is_closed (state_at_stage stage) ≡ true → state_at_stage (stage_after_undo code stage) ≡ state_at_stage stage
undone-stays code (Waiting n) h = cc
undone-stays code (Reversing u) h = cc
undone-stays code Approved h = refl
undone-stays code (Declined c) h = refl
undone-stays code (Reversed u) h = refl

stays-answered : (slots : List Slot) (key : TxKey) (code : ℕ) → AreNumbered 1 slots → StaysIn slots (slots_after_answer slots key code)
stays-answered slots key code numbered = by_slot (slot_at slots key.stan)
  where
    by_role : (role : Role) → StaysIn slots (slots_after_answer_in_role slots key.stan code role)
    by_role (Transaction stage) = stays-changed (stage_after code) key.stan slots numbered (λ s from here is closed. after-stays code from closed)
    by_role (Reversal k) = stays-changed (stage_after_undo code) k slots numbered (λ s from here is closed. undone-stays code from closed)

    by_test : (s : Slot) (b : Bool) → StaysIn slots (cond b (slots_after_answer_in_role slots key.stan code s.role) slots)
    by_test s true = by_role s.role
    by_test s false = stays-same slots

    by_slot : (f : Option Slot) → StaysIn slots (slots_after_answer_of_slot slots key code f)
    by_slot None = stays-same slots
    by_slot (Some s) = by_test s (same_key s.order.key key)

module _ (slots : List Slot) (numbered : AreNumbered 1 slots) where
  -- what is asked isn't closed
  open-stays : (new : Stage) (s : Slot) (n : ℕ) → slot_at slots s.order.key.stan ≡ Some s → s.role ≡ Transaction (Waiting n) → StaysIn slots (slots_at_stage (λ _. new) s.order.key.stan slots)
  open-stays new s n here role =
      stays-changed (λ _. new) s.order.key.stan slots numbered
      (λ x stage there is closed.
      let same : Waiting n ≡ stage = same_stage (Waiting n) stage (sym role ∙ ap (λ (y : Slot). y.role) (same_Some s x (sym here ∙ there)) ∙ is) in
      absurd (never_true (ap (λ g. is_closed (state_at_stage g)) same ∙ closed)))
    where
      never_true : false ≡ true → ⊥
      never_true h = cc

  asked-stays : (s : Slot) (stage : Stage) → slot_at slots s.order.key.stan ≡ Some s → s.role ≡ Transaction stage → (r : Instruction × List Slot) → timeout_at_stage slots s.order stage ≡ Ok r → StaysIn slots r.1
  asked-stays s (Waiting n) here role r e = by_tests (n == 1) (nat_lt (length slots) 999999) e
    where
      by_tests : (b t : Bool) →
          ◌≡◌ {A = Result (Instruction × List Slot) AcqFault} (cond b (Ok (s.order, slots_at_stage (λ _. Waiting 2) s.order.key.stan slots))
          (cond t (Ok (next_reversal slots s.order, slots_with_reversal slots s.order.key.stan (next_reversal slots s.order))) (Err NoMoreTrace))) (Ok r) → StaysIn slots r.1
      by_tests true t h = subst (λ (r : Instruction × List Slot). StaysIn slots r.1) (ok_is (s.order, slots_at_stage (λ _. Waiting 2) s.order.key.stan slots) r h) (open-stays (Waiting 2) s n here role)
      by_tests false true h =
          subst (λ (r : Instruction × List Slot). StaysIn slots r.1) (ok_is (next_reversal slots s.order, slots_with_reversal slots s.order.key.stan (next_reversal slots s.order)) r h)
          (λ stan state told closed. stays-pushed (slots_at_stage (λ _. Reversing (next_reversal slots s.order).key.stan) s.order.key.stan slots) (reversal_for s.order.key.stan (next_reversal slots s.order)) stan state
          (open-stays (Reversing (next_reversal slots s.order).key.stan) s n here role stan state told closed) closed)
      by_tests false false h = absurd (err_not NoMoreTrace r h)
  asked-stays s (Reversing u) here role r e = subst (λ (r : Instruction × List Slot). StaysIn slots r.1) (ok_is (reversal_under u s.order, slots) r e) (stays-same slots)
  asked-stays s Approved here role r e = absurd (err_not Closed r e)
  asked-stays s (Declined c) here role r e = absurd (err_not Closed r e)
  asked-stays s (Reversed u) here role r e = absurd (err_not Closed r e)

  stays-asked : (stan : ℕ) (r : Instruction × List Slot) → timeout slots stan ≡ Ok r → StaysIn slots r.1
  stays-asked stan r e = by_slot (slot_at slots stan) refl e
    where
      by_role : (s : Slot) (role : Role) → slot_at slots stan ≡ Some s → s.role ≡ role → timeout_in_role slots s.order role ≡ Ok r → StaysIn slots r.1
      by_role s (Transaction stage) here role h = asked-stays s stage (ap (slot_at slots) (found slots 1 stan s numbered here).0 ∙ here) role r h
      by_role s (Reversal k) here role h = absurd (err_not NoSuch r h)

      by_slot : (f : Option Slot) → slot_at slots stan ≡ f → timeout_of_slot slots f ≡ Ok r → StaysIn slots r.1
      by_slot None here h = absurd (err_not NoSuch r h)
      by_slot (Some s) here h = by_role s s.role here refl h

-- what is closed stays through an event
pub stays-made : (old new : World) (event : Event) → IsSound old → IsMade old event new → StaysClosed old new
stays-made old new (Begin pan amount currency sent) sound made =
    subst (λ (w : World). StaysClosed old w) (sym made.after) (stays-pushed old.acquirer.slots _)
stays-made old new (Timeout stan) sound made =
    subst (λ (w : World). StaysClosed old w) (sym made.after) (stays-asked old.acquirer.slots sound.agreed.numbered stan made.asked made.found)
stays-made old new (Deliver place) sound made = subst (λ (w : World). StaysClosed old w) (sym made.after) (stays-same old.acquirer.slots)
stays-made old new (Answer place) sound made =
    subst (λ (w : World). StaysClosed old w) (sym made.after) (stays-answered old.acquirer.slots made.answer.key made.answer.answer.code sound.agreed.numbered)
stays-made old new (Other o) sound made = subst (λ (w : World). StaysClosed old w) (sym made.after) (stays-same old.acquirer.slots)

pub stays : (old new : World) (event : Event) (r : Result (Unit {0}) StepFault) → IsSound old → OnOk r (IsMade old event new) → OnErr r (new ≡ old) → StaysClosed old new
stays old new event (Ok u) sound made refused = stays-made old new event sound made
stays old new event (Err e) sound made refused = subst (λ (w : World). StaysClosed old w) (sym refused) (stays-same old.acquirer.slots)

-- a run goes on by one event
pub ran-push : (old mid new : World) (es : List Event) (n : ℕ) (e : Event) (f : Option StepFault) → IsRan old es n mid → IsStep mid e new f → IsRan old (es ++ e ∷ []) (n + refusal_count f) new
ran-push old mid new [] n e f ran step =
    (new, f, 0, subst (λ (w : World). IsStep w e new f) ran.1 step, (refl, refl), omega (arith, ran.0))
ran-push old mid new (x ∷ xs) n e f (w, g, m, first, ran, count) step =
    (w, g, m + refusal_count f, first, ran-push w mid new xs m e f ran step, omega (arith, count))
