-- No answer came in time: the acquirer sends again, or reverses.
use Rattle.std.proofs.Common.{◌≡◌, ℕ, Bool, true, false, refl, ap, sym, ◌∙◌, subst, List, [], ◌∷◌, ◌++◌, length, cond}
use Rattle.std.specs.Prelude.{◌==◌, Option, Some, None, option_map, nat_lt, Result, Ok, Err}
use Rattle.std.proofs.lemmas.Option.{same_Some, none-some}
use Rattle.iso_order.specs.Order.{Instruction}
use Rattle.iso_issuer.specs.declared.journal.Entry.{Entry}
use Rattle.iso_acquirer.specs.declared.event.Given.{Given}
use Rattle.iso_acquirer.specs.declared.fault.AcqFault.{AcqFault}
use Rattle.iso_acquirer.specs.declared.fault.AcqFault.TheVariants.{NoMoreTrace, NoSuch, Closed}
use Rattle.iso_acquirer.specs.declared.slot.Slot.{Slot}
use Rattle.iso_acquirer.specs.declared.slot.Role.{Role}
use Rattle.iso_acquirer.specs.declared.slot.Role.TheVariants.{Transaction, Reversal}
use Rattle.iso_acquirer.specs.declared.slot.Stage.{Stage}
use Rattle.iso_acquirer.specs.declared.slot.Stage.TheVariants.{Waiting, Reversing, Approved, Declined, Reversed}
use Rattle.iso_acquirer.specs.Acquirer.{slot_at, undo_of, reversal_under, slots_at_stage, timeout, timeout_of_slot, timeout_in_role, timeout_at_stage, next_reversal, slots_with_reversal}
use Rattle.iso_acquirer.specs.Agreed.{IsAgreed}
use Rattle.iso_acquirer.proofs.Numbered.{found}
use Rattle.iso_acquirer.proofs.Clauses.{same_stage, transaction_at}
use Rattle.iso_acquirer.proofs.Changed.{order-changed, agreed-changed}
use Rattle.iso_acquirer.proofs.Begun.{agreed-sent, agreed-reversing}

pub ok_is : {A B : Type 0} (x y : A) → ◌≡◌ {A = Result A B} (Ok x) (Ok y) → x ≡ y
ok_is x y h = cc

pub err_not : {A B : Type 0} (x : B) (y : A) → ◌≡◌ {A = Result A B} (Err x) (Ok y) → ⊥
err_not x y h = cc

module _ (id : ℕ) (slots : List Slot) (sent : List Instruction) (given : List Given) (entries : List Entry) (w : IsAgreed id slots sent given entries) where
  -- what is agreed once an order is sent
  abbrev IsSent : Instruction × List Slot → Type 0
  IsSent r = IsAgreed id r.1 (sent ++ r.0 ∷ []) given entries

  again : (s : Slot) (n : ℕ) → slot_at slots s.order.key.stan ≡ Some s → s.role ≡ Transaction (Waiting n) → IsSent (s.order, slots_at_stage (λ _. Waiting 2) s.order.key.stan slots)
  again s n here role =
      agreed-sent id (slots_at_stage (λ _. Waiting 2) s.order.key.stan slots) sent given entries s.order
      (agreed-changed id slots sent given entries (λ _. Waiting 2) s.order.key.stan w
      (λ x stage v there is undo. absurd (none-some v (ap (undo_of x.order) (same_stage (Waiting n) stage (sym role ∙ ap (λ (y : Slot). y.role) (same_Some s x (sym here ∙ there)) ∙ is)) ∙ undo)))
      (λ x stage there is h. tt) (λ x stage v there is undo. absurd (none-some v undo)))
      (order-changed (λ _. Waiting 2) s.order.key.stan slots s.order.key.stan ∙ ap (option_map (λ (x : Slot). x.order)) here)

  asked-by : (s : Slot) (stage : Stage) → slot_at slots s.order.key.stan ≡ Some s → s.role ≡ Transaction stage → (r : Instruction × List Slot) → timeout_at_stage slots s.order stage ≡ Ok r → IsSent r
  asked-by s (Waiting n) here role r e = by_tests (n == 1) (nat_lt (length slots) 999999) e
    where
      by_tests : (b t : Bool) →
          ◌≡◌ {A = Result (Instruction × List Slot) AcqFault} (cond b (Ok (s.order, slots_at_stage (λ _. Waiting 2) s.order.key.stan slots))
          (cond t (Ok (next_reversal slots s.order, slots_with_reversal slots s.order.key.stan (next_reversal slots s.order))) (Err NoMoreTrace))) (Ok r) → IsSent r
      by_tests true t h = subst IsSent (ok_is (s.order, slots_at_stage (λ _. Waiting 2) s.order.key.stan slots) r h) (again s n here role)
      by_tests false true h =
          subst IsSent (ok_is (next_reversal slots s.order, slots_with_reversal slots s.order.key.stan (next_reversal slots s.order)) r h)
          (agreed-reversing id slots sent given entries s.order.key.stan n s (next_reversal slots s.order) w here role refl (w.slots_hold s.order.key.stan s here).own refl)
      by_tests false false h = absurd (err_not NoMoreTrace r h)
  asked-by s (Reversing u) here role r e =
      subst IsSent (ok_is (reversal_under u s.order, slots) r e) (agreed-sent id slots sent given entries (reversal_under u s.order) w ((transaction_at id slots sent given entries w s.order.key.stan s (Reversing u) here role).undone (reversal_under u s.order) refl))
  asked-by s Approved here role r e = absurd (err_not Closed r e)
  asked-by s (Declined c) here role r e = absurd (err_not Closed r e)
  asked-by s (Reversed u) here role r e = absurd (err_not Closed r e)

  asked-in : (stan : ℕ) (s : Slot) (role : Role) → slot_at slots stan ≡ Some s → s.role ≡ role → (r : Instruction × List Slot) → timeout_in_role slots s.order role ≡ Ok r → IsSent r
  asked-in stan s (Transaction stage) here role r e = asked-by s stage (ap (slot_at slots) (found slots 1 stan s w.numbered here).0 ∙ here) role r e
  asked-in stan s (Reversal k) here role r e = absurd (err_not NoSuch r e)

  pub agreed-asked : (stan : ℕ) (r : Instruction × List Slot) → timeout slots stan ≡ Ok r → IsAgreed id r.1 (sent ++ r.0 ∷ []) given entries
  agreed-asked stan r e = by_slot (slot_at slots stan) refl e
    where
      by_slot : (f : Option Slot) → slot_at slots stan ≡ f → timeout_of_slot slots f ≡ Ok r → IsSent r
      by_slot None here h = absurd (err_not NoSuch r h)
      by_slot (Some s) here h = asked-in stan s s.role here refl r h
