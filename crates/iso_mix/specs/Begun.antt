-- What begins.
use Rattle.std.specs.Prelude.{◌≡◌, ◌++◌, ◌∷◌, [], ◌⊎◌, ℕ, true, List, Option, Some, None, length, slice_get}
use Rattle.iso_order.specs.Order.{Instruction}
use Rattle.iso_mix.specs.declared.asked.Side.{Side}
use Rattle.iso_mix.specs.declared.draft.Draft.{Draft}
use Rattle.iso_mix.specs.declared.mix.Kind.{Kind}
use Rattle.iso_mix.specs.Asked.{is_free, unanswered, sides_followed}
use Rattle.iso_mix.specs.Orders.{opening_order, follower_stan, IsFollower}

-- a hold or an inquiry that was made, and that nothing follows
abbrev pub opened : ℕ → Instruction → Side
opened place o = record { place = place; first = unanswered o; follower = None }

-- a hold or an inquiry begins by that order, under the next trace number
pub record Opens (kind : Kind) (d : Draft) (old new : List Side) (o : Instruction) : Type 0 where
  pub order : opening_order kind d (length old) ≡ Some o
  pub added : new ≡ old ++ opened d.place o ∷ []

-- the order follows the hold at that place, which was granted and which nothing followed
pub record Follows (kind : Kind) (d : Draft) (sides : List Side) (place : ℕ)
    (o : Instruction) : Type 0 where
  pub hold : Side
  pub there : slice_get sides place ≡ Some hold
  pub free : is_free hold ≡ true
  pub stan : ℕ
  pub number : follower_stan place d.highest ≡ Some stan
  pub follows : IsFollower kind d hold.first.order stan o

-- a completion or a partial reversal begins by that order
pub record Ends (kind : Kind) (d : Draft) (old new : List Side) (o : Instruction) : Type 0 where
  pub place : ℕ
  pub follows : Follows kind d old place o
  pub added : new ≡ sides_followed place o old

-- what begins: nothing only where a hold or an inquiry has no trace number, or would be no order
abbrev pub Begins : Kind → Draft → List Side → List Side → Option Instruction → Type 0
Begins kind d old new None = (new ≡ old) × (opening_order kind d (length old) ≡ None)
Begins kind d old new (Some o) = Opens kind d old new o ⊎ Ends kind d old new o

-- the same of a completion or a partial reversal alone
abbrev pub EndsOrNot : Kind → Draft → List Side → List Side → Option Instruction → Type 0
EndsOrNot kind d old new None = new ≡ old
EndsOrNot kind d old new (Some o) = Ends kind d old new o

-- the same of a hold or an inquiry alone
abbrev pub OpensOrNot : Kind → Draft → List Side → List Side → Option Instruction → Type 0
OpensOrNot kind d old new None = (new ≡ old) × (opening_order kind d (length old) ≡ None)
OpensOrNot kind d old new (Some o) = Opens kind d old new o
