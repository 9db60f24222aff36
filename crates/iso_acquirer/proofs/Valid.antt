-- The orders that an acquirer keeps are valid.
use Rattle.std.proofs.Common.{◌≡◌, ◌≤◌, ◌<◌, ◌+◌, ℕ, Bool, true, false, refl, arith, subst, List, length, cond}
use Rattle.std.specs.Prelude.{◌==◌, Option, Some, None, nat_lt, Result, Ok, Err}
use Rattle.std.specs.List.{AllByRecursion}
use Rattle.std.proofs.lemmas.Bool.Decides.{nat_tests}
use Rattle.iso_order.specs.declared.key.TxKey.{TxKey}
use Rattle.iso_order.specs.Pan.{AccountNumber, is_pan}
use Rattle.iso_order.specs.Key.{same_key, is_valid_key}
use Rattle.iso_order.specs.Order.{Instruction, is_valid}
use Rattle.iso_acquirer.specs.declared.fault.AcqFault.{AcqFault}
use Rattle.iso_acquirer.specs.declared.fault.AcqFault.TheVariants.{NoMoreTrace, NoSuch, Closed}
use Rattle.iso_acquirer.specs.declared.slot.Slot.{Slot}
use Rattle.iso_acquirer.specs.declared.slot.Role.{Role}
use Rattle.iso_acquirer.specs.declared.slot.Role.TheVariants.{Transaction, Reversal}
use Rattle.iso_acquirer.specs.declared.slot.Stage.{Stage}
use Rattle.iso_acquirer.specs.declared.slot.Stage.TheVariants.{Waiting, Reversing, Approved, Declined, Reversed}
use Rattle.iso_acquirer.specs.Acquirer.{Party, slot_at, order_at, slots_at_stage, stage_after, stage_after_undo, slots_after_answer, slots_after_answer_in_role, slots_after_answer_of_slot, timeout, timeout_of_slot, timeout_in_role, timeout_at_stage, reversal_under, next_reversal, reversal_for, slots_with, slots_with_reversal, transaction_of, debit_of, IsFair}
use Rattle.iso_acquirer.proofs.Lists.{all-push}
use Rattle.iso_acquirer.proofs.Numbered.{all-changed, all-found}
use Rattle.iso_acquirer.proofs.Made.{debit-valid, reversal-fits}
use Rattle.iso_acquirer.proofs.Clauses.{slot_of_order}
use Rattle.iso_acquirer.proofs.TimedOut.{ok_is, err_not}

abbrev pub IsValidSlot : Slot → Type 0
IsValidSlot s = is_valid s.order ≡ true

abbrev pub AreValid : List Slot → Type 0
AreValid slots = AllByRecursion IsValidSlot slots

-- what is kept under a trace number is valid
pub valid-at : (slots : List Slot) (n : ℕ) (o : Instruction) → AreValid slots → order_at slots n ≡ Some o → is_valid o ≡ true
valid-at slots n o all made =
    let slot = slot_of_order slots n o made in
    subst (λ (x : Instruction). is_valid x ≡ true) slot.2 (all-found IsValidSlot slots n slot.0 all slot.1)

-- a debit is begun
debit-key : (stan sent id : ℕ) → stan ≤ 999999 → sent ≤ 9999999999 → id ≤ 99999999999 → is_valid_key (record { base = 200; stan = stan; sent = sent; acquirer = id }) ≡ true
debit-key stan sent id few fits own = grind (arith, nat_tests)

pub valid-begun : (p : Party) (pan : AccountNumber) (amount : ℕ) (currency : List ℕ) (sent : ℕ) → p.id ≤ 99999999999 → length p.slots < 999999 → IsFair amount currency sent → is_pan pan ≡ true →
    AreValid p.slots → AreValid (slots_with p.slots (debit_of p pan amount currency sent))
valid-begun p pan amount currency sent own few fair is all =
    all-push IsValidSlot p.slots (transaction_of (debit_of p pan amount currency sent)) all
    (debit-valid (record { base = 200; stan = length p.slots + 1; sent = sent; acquirer = p.id }) (record { pan = pan; amount = amount; currency = currency })
    (debit-key (length p.slots + 1) sent p.id (omega arith) fair.sent_fits own) refl fair is)

-- a change of stage changes no order
valid-changed : (step : Stage → Stage) (m : ℕ) (slots : List Slot) → AreValid slots → AreValid (slots_at_stage step m slots)
valid-changed step m slots all = all-changed IsValidSlot step m slots (λ s valid. valid) all

pub valid-answered : (slots : List Slot) (key : TxKey) (code : ℕ) → AreValid slots → AreValid (slots_after_answer slots key code)
valid-answered slots key code all = by_slot (slot_at slots key.stan)
  where
    by_role : (role : Role) → AreValid (slots_after_answer_in_role slots key.stan code role)
    by_role (Transaction stage) = valid-changed (stage_after code) key.stan slots all
    by_role (Reversal n) = valid-changed (stage_after_undo code) n slots all

    by_test : (s : Slot) (b : Bool) → AreValid (cond b (slots_after_answer_in_role slots key.stan code s.role) slots)
    by_test s true = by_role s.role
    by_test s false = all

    by_slot : (f : Option Slot) → AreValid (slots_after_answer_of_slot slots key code f)
    by_slot None = all
    by_slot (Some s) = by_test s (same_key s.order.key key)

-- no answer came in time; the base is that of each transaction
module _ (slots : List Slot) (all : AreValid slots) (base : (n : ℕ) (s : Slot) (stage : Stage) → slot_at slots n ≡ Some s → s.role ≡ Transaction stage → s.order.key.base ≡ 200) where
  below : nat_lt (length slots) 999999 ≡ true → length slots < 999999
  below h = grind (arith, nat_tests, h)

  asked-by : (n : ℕ) (s : Slot) (stage : Stage) → slot_at slots n ≡ Some s → s.role ≡ Transaction stage → (r : Instruction × List Slot) → timeout_at_stage slots s.order stage ≡ Ok r → AreValid r.1
  asked-by m s (Waiting n) here role r e = by_tests (n == 1) (nat_lt (length slots) 999999) refl e
    where
      by_tests : (b t : Bool) → nat_lt (length slots) 999999 ≡ t →
          ◌≡◌ {A = Result (Instruction × List Slot) AcqFault} (cond b (Ok (s.order, slots_at_stage (λ _. Waiting 2) s.order.key.stan slots))
          (cond t (Ok (next_reversal slots s.order, slots_with_reversal slots s.order.key.stan (next_reversal slots s.order))) (Err NoMoreTrace))) (Ok r) → AreValid r.1
      by_tests true t k h =
          subst (λ (r : Instruction × List Slot). AreValid r.1) (ok_is (s.order, slots_at_stage (λ _. Waiting 2) s.order.key.stan slots) r h) (valid-changed (λ _. Waiting 2) s.order.key.stan slots all)
      by_tests false true k h =
          let u = next_reversal slots s.order in
          subst (λ (r : Instruction × List Slot). AreValid r.1) (ok_is (u, slots_with_reversal slots s.order.key.stan u) r h)
          (all-push IsValidSlot (slots_at_stage (λ _. Reversing u.key.stan) s.order.key.stan slots) (reversal_for s.order.key.stan u) (valid-changed (λ _. Reversing u.key.stan) s.order.key.stan slots all)
          (reversal-fits s.order (length slots + 1) (all-found IsValidSlot slots m s all here) (base m s (Waiting n) here role) (omega (arith, below k))))
      by_tests false false k h = absurd (err_not NoMoreTrace r h)
  asked-by m s (Reversing u) here role r e = subst (λ (r : Instruction × List Slot). AreValid r.1) (ok_is (reversal_under u s.order, slots) r e) all
  asked-by m s Approved here role r e = absurd (err_not Closed r e)
  asked-by m s (Declined c) here role r e = absurd (err_not Closed r e)
  asked-by m s (Reversed u) here role r e = absurd (err_not Closed r e)

  asked-in : (n : ℕ) (s : Slot) (role : Role) → slot_at slots n ≡ Some s → s.role ≡ role → (r : Instruction × List Slot) → timeout_in_role slots s.order role ≡ Ok r → AreValid r.1
  asked-in n s (Transaction stage) here role r e = asked-by n s stage here role r e
  asked-in n s (Reversal k) here role r e = absurd (err_not NoSuch r e)

  pub valid-asked : (stan : ℕ) (r : Instruction × List Slot) → timeout slots stan ≡ Ok r → AreValid r.1
  valid-asked stan r e = by_slot (slot_at slots stan) refl e
    where
      by_slot : (f : Option Slot) → slot_at slots stan ≡ f → timeout_of_slot slots f ≡ Ok r → AreValid r.1
      by_slot None here h = absurd (err_not NoSuch r h)
      by_slot (Some s) here h = asked-in stan s s.role here refl r h
