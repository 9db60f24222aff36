-- When a peer is read from, and when it is closed.
use Rattle.std.specs.Prelude.{ℕ, ◌+◌, Bool, true, false, not, ◌==◌, ◌&&◌, ◌||◌, nat_le}
use Rattle.iso_script_peers.specs.declared.standing.Bounds.{Bounds}
use Rattle.iso_script_peers.specs.declared.standing.Standing.{Standing}
use Rattle.iso_script_peers.specs.declared.standing.Standing.TheVariants.{Open, Ended, Cut, Closed}

-- so many bytes wait for it, and so many are held back, that nothing more is taken of it
abbrev pub is_full : Bounds → ℕ → ℕ → Bool
is_full bounds waiting held = nat_le bounds.waiting (waiting + held)

-- it is closed now: one that ended has got all its answers; one that is cut has got those before the cut, as far as it takes
-- them
abbrev pub is_done : Standing → ℕ → ℕ → Bool → Bool
is_done Open waiting held takes = false
is_done Ended waiting held takes = (waiting == 0) && (held == 0)
is_done Cut waiting held takes = (waiting == 0) || not takes
is_done Closed waiting held takes = true
