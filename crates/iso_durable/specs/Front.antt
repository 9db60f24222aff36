-- What a crash leaves of a log.
use Rattle.std.specs.Prelude.{◌≡◌, ℕ, List, ◌++◌, take}
use Rattle.iso_order.specs.Order.{Instruction}

-- these orders, and of those behind them some from the front
abbrev pub LeavesFront : (List Instruction → Type 0) → List Instruction → List Instruction → Type 0
LeavesFront may_leave synced pending = (c : List Instruction) → may_leave c
    → (n : ℕ) × (c ≡ synced ++ take n pending)

-- what holds of each log in memory
abbrev pub Always : Type 0
Always = Unit
