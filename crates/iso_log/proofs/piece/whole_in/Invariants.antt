use Rattle.std.proofs.Common.{◌≡◌, ◌<◌, ℕ, true}
use Rattle.iso_log.specs.Slots.{is_whole, slot}
use Rattle.iso_log.proofs.piece.whole_in.Given as goal

abbrev pub invariant-loop-place : goal.invariant-loop-place
invariant-loop-place l = (j : ℕ) → j < l.place → is_whole (slot l.bytes j) ≡ true
