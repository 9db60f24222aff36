-- Of which cluster members are.
use Rattle.std.specs.Prelude.{ℕ, ◌==◌, Option, Some, None, if◌then◌else◌}

-- The cluster of all members, once one more has told its own, if it has. Nothing, where that is another one
abbrev pub joined : Option ℕ → Option ℕ → Option (Option ℕ)
joined (Some known) (Some told) = if known == told then Some (Some known) else None
joined (Some known) None = Some (Some known)
joined None told = Some told
