-- Which account numbers are whose.
use Rattle.std.specs.Prelude.{◌≡◌, ℕ, ◌<◌, ◌≤◌, true, List, [], ◌∷◌, slice_get}
use Rattle.std.specs.Prelude.{Option, Some, None, if◌then◌else◌}
use Rattle.std.specs.List.{AllByRecursion}
use Rattle.iso_order.specs.Pan.{AccountNumber}
use Rattle.iso_front.specs.declared.prefixes.Prefixes.{Prefixes}
use Rattle.iso_front.specs.declared.prefixes.Given.{Given}
use Rattle.iso_front.specs.Prefixes.{covers, AreApart}

-- how many shards there are, and the prefixes that are given to them
pub record Split : Type 0 where
  pub count : ℕ
  pub given : List Given

-- no account number begins with a prefix of two of them
abbrev pub NoneMeet : List Given → Type 0
NoneMeet [] = Unit {0}
NoneMeet (g ∷ gs) = AllByRecursion (λ h. AreApart g.prefixes h.prefixes) gs × NoneMeet gs

-- the account number is the shard's: it begins with one of the prefixes that are given to it
pub record Belongs (s : Split) (pan : AccountNumber) (shard : ℕ) : Type 0 where
  pub place : ℕ
  pub prefixes : Prefixes
  pub given : slice_get s.given place ≡ Some (record { prefixes = prefixes; shard = shard })
  pub covered : covers prefixes pan ≡ true

-- the place of the shard that has the account number, if one has it
abbrev pub shard_in : List Given → AccountNumber → Option ℕ
shard_in [] pan = None
shard_in (g ∷ gs) pan = if covers g.prefixes pan then Some g.shard else shard_in gs pan

-- the same of a split
abbrev pub shard_of : Split → AccountNumber → Option ℕ
shard_of s pan = shard_in s.given pan

-- at most 64 shards, prefixes are given to those that are there, and no two of these meet
pub record IsSplit (s : Split) : Type 0 where
  pub few : s.count ≤ 64
  pub there : AllByRecursion (λ g. g.shard < s.count) s.given
  pub apart : NoneMeet s.given
