-- How an acquirer keeps its transactions.
use Rattle.std.proofs.Common.{◌≡◌, ℕ, Bool, true, false, refl, arith, ap, sym, subst, List, [], ◌∷◌, length, ◌<◌, ◌≤◌, ◌+◌, ◌-◌, cond, length-append}
use Rattle.std.specs.Prelude.{◌==◌, ◌||◌, Some}
use Rattle.std.specs.List.{AllByRecursion}
use Rattle.std.proofs.lemmas.List.Sums.{sum_by_push}
use Rattle.iso_order.specs.Order.{Instruction}
use Rattle.iso_acquirer.specs.declared.slot.Slot.{Slot}
use Rattle.iso_acquirer.specs.declared.slot.Role.{Role}
use Rattle.iso_acquirer.specs.declared.slot.Role.TheVariants.{Transaction, Reversal}
use Rattle.iso_acquirer.specs.declared.slot.Stage.{Stage}
use Rattle.iso_acquirer.specs.declared.slot.Stage.TheVariants.{Waiting, Reversing, Approved, Declined, Reversed}
use Rattle.iso_acquirer.specs.Acquirer.{slot_at, on_stage, slots_at_stage, transaction_of, reversal_for, slots_with, slots_with_reversal, stage_after, stage_after_undo}
use Rattle.iso_acquirer.specs.Room.{AreNumbered, reversals_at, reversals_of, reversals_left, IsTraced, IsRequest, IsRoomKept}
use Rattle.iso_acquirer.proofs.Lists.{all-push}
use Rattle.iso_acquirer.proofs.Numbered.{summed, numbered-changed, numbered-push, length-changed, all-changed, all-found}

abbrev AreRequests : List Slot → Type 0
AreRequests slots = AllByRecursion (λ s. IsRequest s.role s.order) slots

requests-changed : (stage : Stage) (m : ℕ) (slots : List Slot) → IsTraced stage → AreRequests slots → AreRequests (slots_at_stage (λ _. stage) m slots)
requests-changed stage m slots traced all = all-changed (λ s. IsRequest s.role s.order) (λ _. stage) m slots (λ s is. by_role s.role s.order is) all
  where
    by_role : (r : Role) (o : Instruction) → IsRequest r o → IsRequest (on_stage (λ _. stage) r) o
    by_role (Transaction from) o is = (is.0, traced)
    by_role (Reversal k) o is = is

-- what is kept under a trace number, and its reversal
pub request-at : (slots : List Slot) (m : ℕ) (s : Slot) → AreRequests slots → slot_at slots m ≡ Some s → IsRequest s.role s.order
request-at slots m s all there = all-found (λ s. IsRequest s.role s.order) slots m s all there

-- the same of a transaction
pub request-of : (s : Slot) (stage : Stage) → IsRequest s.role s.order → s.role ≡ Transaction stage → (s.order.key.base ≡ 200) × IsTraced stage
request-of s stage is role = subst (λ (r : Role). IsRequest r s.order) role is

-- the order of a transaction that is found
pub request-found : (slots : List Slot) (m : ℕ) (s : Slot) → AreRequests slots → slot_at slots m ≡ Some s → reversals_of s.role ≡ 1 → s.order.key.base ≡ 200
request-found slots m s all there one = by_role s.role (all-found (λ s. IsRequest s.role s.order) slots m s all there) one
  where
    by_role : (r : Role) → IsRequest r s.order → reversals_of r ≡ 1 → s.order.key.base ≡ 200
    by_role (Transaction stage) is one = is.0
    by_role (Reversal k) is one = cc

-- a transaction is begun
pub kept-begun : (id : ℕ) (slots : List Slot) (w len cap len_after cap_after : ℕ) (o : Instruction) → IsRoomKept id slots w len cap →
    o.key.stan ≡ length slots + 1 → o.key.base ≡ 200 → length slots < 999999 → len_after + (w + 1) ≤ cap_after → IsRoomKept id (slots_with slots o) (w + 1) len_after cap_after
kept-begun id slots w len cap len_after cap_after o kept next base few room = record {
  id_fits = kept.id_fits;
  numbered = numbered-push slots (transaction_of o) 1 kept.numbered (omega (arith, next));
  few = omega (arith, length-append slots (transaction_of o ∷ []));
  counted = omega (arith, kept.counted, sum_by_push (λ (s : Slot). reversals_of s.role) slots (transaction_of o));
  room = room;
  requests = all-push (λ (s : Slot). IsRequest s.role s.order) slots (transaction_of o) kept.requests (base, tt);
}

-- one change changes how many reversals may still be made
open-sum : (slots : List Slot) (m : ℕ) (s : Slot) (step : Stage → Stage) → AreNumbered 1 slots → slot_at slots m ≡ Some s →
    reversals_left (slots_at_stage step m slots) + reversals_of s.role ≡ reversals_left slots + reversals_of (on_stage step s.role)
open-sum slots m s step h there = summed (λ (s : Slot). reversals_of s.role) step slots 1 m s h there

-- a transaction comes to a stage
pub kept-brought : (id : ℕ) (slots : List Slot) (w len cap len_after cap_after m before after : ℕ) (s : Slot) (from stage : Stage) → IsRoomKept id slots w len cap →
    slot_at slots m ≡ Some s → s.role ≡ Transaction from → before ≡ reversals_of s.role → after ≡ reversals_at stage → after ≤ before → before ≤ w →
    len_after ≡ len → cap_after ≡ cap → IsTraced stage →
    IsRoomKept id (slots_at_stage (λ _. stage) m slots) (w - before + after) len_after cap_after
kept-brought id slots w len cap len_after cap_after m before after s from stage kept there role was is less enough same_len same_cap traced = record {
  id_fits = kept.id_fits;
  numbered = numbered-changed (λ _. stage) m slots 1 kept.numbered;
  few = rw (length-changed (λ _. stage) m slots) kept.few;
  counted = omega (arith, kept.counted, was, is, enough, less, open-sum slots m s (λ _. stage) kept.numbered there, ap (λ r. reversals_of (on_stage (λ _. stage) r)) role);
  room = omega (arith, kept.room);
  requests = requests-changed stage m slots traced kept.requests;
}

-- what may still be reversed is counted
pub open-counted : (id : ℕ) (slots : List Slot) (w len cap m before : ℕ) (s : Slot) → IsRoomKept id slots w len cap → slot_at slots m ≡ Some s →
    before ≡ reversals_of s.role → before ≤ w
open-counted id slots w len cap m before s kept there is =
    omega (arith, kept.counted, is, open-sum slots m s (λ _. Approved) kept.numbered there, closed s.role)
  where
    closed : (r : Role) → reversals_of (on_stage (λ _. Approved) r) ≡ 0
    closed (Transaction stage) = refl
    closed (Reversal k) = refl

-- a transaction is reversed
pub kept-reversing : (id : ℕ) (slots : List Slot) (w len cap len_after cap_after m : ℕ) (s : Slot) (u : Instruction) → IsRoomKept id slots w len cap →
    slot_at slots m ≡ Some s → reversals_of s.role ≡ 1 → u.key.stan ≡ length slots + 1 → length slots < 999999 →
    len_after ≡ len + 1 → cap_after ≡ cap → IsRoomKept id (slots_with_reversal slots m u) (w - 1) len_after cap_after
kept-reversing id slots w len cap len_after cap_after m s u kept there one next few same_len same_cap =
    let after = slots_at_stage (λ _. Reversing u.key.stan) m slots in
    let length_after : length after ≡ length slots = length-changed (λ _. Reversing u.key.stan) m slots in
    let enough : 1 ≤ w = open-counted id slots w len cap m 1 s kept there (sym one) in
    record {
      id_fits = kept.id_fits;
      numbered = numbered-push after (reversal_for m u) 1 (numbered-changed (λ _. Reversing u.key.stan) m slots 1 kept.numbered) (omega (arith, next, length_after));
      few = omega (arith, length-append after (reversal_for m u ∷ []), length_after, few);
      counted = omega (arith, kept.counted, open-sum slots m s (λ _. Reversing u.key.stan) kept.numbered there, sum_by_push (λ (s : Slot). reversals_of s.role) after (reversal_for m u), one, none s.role, enough);
      room = omega (arith, kept.room, enough);
      requests = all-push (λ (s : Slot). IsRequest s.role s.order) after (reversal_for m u) (requests-changed (Reversing u.key.stan) m slots (omega (arith, next, few)) kept.requests) tt;
    }
  where
    none : (r : Role) → reversals_of (on_stage (λ _. Reversing u.key.stan) r) ≡ 0
    none (Transaction stage) = refl
    none (Reversal k) = refl

-- ---- an answer opens nothing, and gives no trace number

pub after-traced : (stage : Stage) (code : ℕ) → IsTraced stage → IsTraced (stage_after code stage)
after-traced (Waiting n) code h = by_code (code == 0) ((code == 94) || (code == 96))
  where
    by_code : (b t : Bool) → IsTraced (cond b Approved (cond t (Waiting n) (Declined code)))
    by_code true t = tt
    by_code false true = tt
    by_code false false = tt
after-traced (Reversing u) code h = h
after-traced Approved code h = tt
after-traced (Declined c) code h = tt
after-traced (Reversed u) code h = tt

pub undone-traced : (stage : Stage) (code : ℕ) → IsTraced stage → IsTraced (stage_after_undo code stage)
undone-traced (Waiting n) code h = tt
undone-traced (Reversing u) code h = by_code (code == 0)
  where
    by_code : (b : Bool) → IsTraced (cond b (Reversed u) (Reversing u))
    by_code true = tt
    by_code false = h
undone-traced Approved code h = tt
undone-traced (Declined c) code h = tt
undone-traced (Reversed u) code h = tt
