-- How far the transactions got that aren't purchases.
use Rattle.std.specs.Prelude.{◌≡◌}
use Rattle.iso_tally.specs.declared.mixed.Mixed.{Mixed}

-- no order of any kind waits for its answer
pub record AreAllAnswered (m : Mixed) : Type 0 where
  pub holds : m.holds.waiting ≡ 0
  pub completions : m.completions.waiting ≡ 0
  pub inquiries : m.inquiries.waiting ≡ 0
  pub undone : m.undone.waiting ≡ 0
