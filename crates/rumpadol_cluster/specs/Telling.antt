-- What a standby is told.
use Rattle.std.specs.Prelude.{ℕ, List, Bool, ◌==◌, ◌||◌, nat_le, length, codes, if◌then◌else◌}
use Rattle.std.specs.List.{list_any, starts_with}
use Rattle.rumpadol_cluster.specs.declared.telling.Told.{Told}
use Rattle.rumpadol_cluster.specs.declared.telling.Told.TheVariants.{More, TakeOver, Other}

-- the bytes begin with these
abbrev pub begins : List ℕ → List ℕ → Bool
begins front bytes = starts_with (λ a b. a == b) bytes front

-- the first line says that the standby is to take over
abbrev pub is_told : List ℕ → Bool
is_told bytes = begins (codes "take over\n") bytes || begins (codes "take over\r\n") bytes

-- a line ends
abbrev pub has_end : List ℕ → Bool
has_end bytes = list_any (λ byte. byte == 10) bytes

-- the first line is whole, or longer than one may be
abbrev pub is_whole : List ℕ → Bool
is_whole bytes = has_end bytes || nat_le 64 (length bytes)

-- what the bytes say that came so far
abbrev pub heard : List ℕ → Told
heard bytes = if is_told bytes then TakeOver else (if is_whole bytes then Other else More)
