-- How an acquirer keeps what it made: in the order of trace numbers, with room for the reversals that may still be made.
-- Inner: bodies and proofs cite it, and no public clause does.
use Rattle.std.specs.Prelude.{◌≡◌, ◌≤◌, ℕ, List, [], ◌∷◌, ◌+◌, length, sum_by}
use Rattle.std.specs.List.{AllByRecursion}
use Rattle.iso_order.specs.Order.{Instruction}
use Rattle.iso_acquirer.specs.declared.slot.Slot.{Slot}
use Rattle.iso_acquirer.specs.declared.slot.Role.{Role}
use Rattle.iso_acquirer.specs.declared.slot.Role.TheVariants.{Transaction, Reversal}
use Rattle.iso_acquirer.specs.declared.slot.Stage.{Stage}
use Rattle.iso_acquirer.specs.declared.slot.Stage.TheVariants.{Waiting, Reversing, Approved, Declined, Reversed}

-- the orders have the trace numbers from n on
abbrev pub AreNumbered : ℕ → List Slot → Type 0
AreNumbered n [] = Unit {0}
AreNumbered n (s ∷ ss) = (s.order.key.stan ≡ n) × AreNumbered (n + 1) ss

-- how many reversals of a transaction may still be made: one or none
abbrev pub reversals_at : Stage → ℕ
reversals_at (Waiting n) = 1
reversals_at (Reversing m) = 0
reversals_at Approved = 0
reversals_at (Declined c) = 0
reversals_at (Reversed m) = 0

-- a reversal isn't reversed
abbrev pub reversals_of : Role → ℕ
reversals_of (Transaction stage) = reversals_at stage
reversals_of (Reversal stan) = 0

-- how many reversals may still be made
abbrev pub reversals_left : List Slot → ℕ
reversals_left slots = sum_by (λ s. reversals_of s.role) slots

-- the trace number of a reversal that may be sent again has at most six digits
abbrev pub IsTraced : Stage → Type 0
IsTraced (Waiting n) = Unit {0}
IsTraced (Reversing m) = m ≤ 999999
IsTraced Approved = Unit {0}
IsTraced (Declined c) = Unit {0}
IsTraced (Reversed m) = Unit {0}

-- a transaction's order is a request of class 2, and its reversal has a trace number
abbrev pub IsRequest : Role → Instruction → Type 0
IsRequest (Transaction stage) o = (o.key.base ≡ 200) × IsTraced stage
IsRequest (Reversal stan) o = Unit {0}

-- the numbers are in a row and few, and there is room for each reversal that may come
pub record IsRoomKept (id : ℕ) (slots : List Slot) (open_ones : ℕ) (len capacity : ℕ) : Type 0 where
  pub id_fits : id ≤ 99999999999
  pub numbered : AreNumbered 1 slots
  pub few : length slots ≤ 999999
  pub counted : open_ones ≡ reversals_left slots
  pub room : len + open_ones ≤ capacity
  pub requests : AllByRecursion (λ s. IsRequest s.role s.order) slots
