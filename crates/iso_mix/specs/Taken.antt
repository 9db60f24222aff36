-- What is taken from an account: for each hold of it that was granted, the amount of its follower that was granted, which
-- is what was completed or what a partial reversal left, or else the amount that was held.
use Rattle.std.specs.Prelude.{◌==◌, ◌&&◌, ℕ, List, Option, Some, None, sum_by, if◌then◌else◌}
use Rattle.iso_order.specs.Order.{amount_of}
use Rattle.iso_mix.specs.declared.asked.Asked.{Asked}
use Rattle.iso_mix.specs.declared.asked.Side.{Side}
use Rattle.iso_mix.specs.Asked.{is_hold, is_granted}

-- what is taken of a held amount, once this followed
abbrev pub left_by : Option Asked → ℕ → ℕ
left_by None held = held
left_by (Some f) held = if is_granted f.code then amount_of f.order.act else held

-- what is taken by a hold
abbrev pub taken_by : Side → ℕ
taken_by s =
    if is_hold s.first.order.act && is_granted s.first.code
    then left_by s.follower (amount_of s.first.order.act) else 0

-- the same, if it is of the account of that place
abbrev pub taken_at : ℕ → Side → ℕ
taken_at place s = if s.place == place then taken_by s else 0

-- what is taken from the account of that place
abbrev pub taken_from : ℕ → List Side → ℕ
taken_from place sides = sum_by (taken_at place) sides
