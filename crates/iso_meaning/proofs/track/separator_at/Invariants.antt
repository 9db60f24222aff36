use Rattle.std.proofs.Common.{◌≡◌, ◌+◌, drop, option_map}
use Rattle.iso_meaning.specs.Tracks.{separator_at}
use Rattle.iso_meaning.proofs.track.separator_at.Given as goal

-- the separator isn't among the bytes so far
abbrev pub invariant-loop-at : goal.invariant-loop-at
invariant-loop-at l = separator_at l.value ≡ option_map (λ n. n + l.at) (separator_at (drop l.at l.value))
