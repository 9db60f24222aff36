-- How a list of bodies agrees with the one that was expected, each with the one at its place.
use Rattle.std.specs.Prelude.{◌≡◌, ℕ, ◌-◌, ◌==◌, ◌&&◌, min, List, length, count_by, zip}
use Rattle.std.specs.Cmp.Lexicographic.{pointwise}
use Rattle.std.specs.Prelude.{nat_eq, Bool}
use Rattle.iso_compare.specs.declared.tally.Tally.{Tally}

-- whether both are the same bytes
abbrev pub are_same : List ℕ × List ℕ → Bool
are_same p = pointwise nat_eq p.0 p.1

-- how many have one at their place, how many of those are as expected, how many are missing, and how many came beyond
pub record Counts (expected came : List (List ℕ)) (t : Tally) : Type 0 where
  pub compared : t.compared ≡ min (length expected) (length came)
  pub same : t.same ≡ count_by are_same (zip expected came)
  pub missing : t.missing ≡ length expected - length came
  pub beyond : t.beyond ≡ length came - length expected

-- all that was expected came, and nothing else
abbrev pub is_all_same : Tally → Bool
is_all_same t = t.same == t.compared && t.missing == 0 && t.beyond == 0
