-- The turns that the reads and writes of a stream take.
-- Inner: bodies and proofs cite it, and no public clause does.
use Rattle.std.specs.Prelude.{◌≡◌, ℕ, ◌+◌, ◌≤◌}
use Rattle.iso_host.specs.Counts.{Counts}

-- each read or write took one of the turns
abbrev pub TakesTurns : Counts → Counts → ℕ → ℕ → Type 0
TakesTurns old new before left = new.calls + left ≡ old.calls + before

-- each call moved a byte, and none failed
pub record Spends (old new : Counts) (before left : ℕ) : Type 0 where
  pub fewer : left ≤ before
  pub moved : new.calls + old.moved ≤ old.calls + new.moved
  pub failures : new.failures ≡ old.failures
