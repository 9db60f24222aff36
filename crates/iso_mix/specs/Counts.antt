-- How far the orders of a kind got. No hold and no inquiry follows a hold, so at most one order of a place is of a kind.
use Rattle.std.specs.Prelude.{◌==◌, ◌&&◌, ◌||◌, ℕ, Bool, true, false, List, Option, Some, None, count_by, if◌then◌else◌}
use Rattle.iso_order.specs.declared.act.Act.{Act}
use Rattle.iso_order.specs.declared.act.Act.TheVariants as act
use Rattle.iso_mix.specs.declared.asked.Asked.{Asked}
use Rattle.iso_mix.specs.declared.asked.Side.{Side}
use Rattle.iso_mix.specs.declared.counts.Counts.{Counts}
use Rattle.iso_mix.specs.declared.counts.Standing.{Standing}
use Rattle.iso_mix.specs.declared.counts.Standing.TheVariants.{Waiting, Granted, Refused}
use Rattle.iso_mix.specs.declared.mix.Kind.{Kind}
use Rattle.iso_mix.specs.declared.mix.Kind.TheVariants.{Purchase, Hold, Complete, Inquiry, Undo}

-- 00 grants, and any other code refuses
abbrev pub standing_of : Option ℕ → Standing
standing_of None = Waiting
standing_of (Some code) = if code == 0 then Granted else Refused

-- a debit of class 1
abbrev pub is_hold_kind : Kind → Bool
is_hold_kind Hold = true
is_hold_kind Purchase = false
is_hold_kind Complete = false
is_hold_kind Inquiry = false
is_hold_kind Undo = false

-- the completion of a hold
abbrev pub is_completion_kind : Kind → Bool
is_completion_kind Complete = true
is_completion_kind Purchase = false
is_completion_kind Hold = false
is_completion_kind Inquiry = false
is_completion_kind Undo = false

-- what is available
abbrev pub is_inquiry_kind : Kind → Bool
is_inquiry_kind Inquiry = true
is_inquiry_kind Purchase = false
is_inquiry_kind Hold = false
is_inquiry_kind Complete = false
is_inquiry_kind Undo = false

-- a reversal of a hold that leaves a part of it
abbrev pub is_undo_kind : Kind → Bool
is_undo_kind Undo = true
is_undo_kind Purchase = false
is_undo_kind Hold = false
is_undo_kind Complete = false
is_undo_kind Inquiry = false

-- a debit of class 2
abbrev pub is_purchase_kind : Kind → Bool
is_purchase_kind Purchase = true
is_purchase_kind Hold = false
is_purchase_kind Complete = false
is_purchase_kind Inquiry = false
is_purchase_kind Undo = false

-- what is asked is of that kind
abbrev pub asks : Kind → Act → Bool
asks kind (act.Debit m) = is_hold_kind kind
asks kind (act.Credit m) = false
asks kind (act.Inquiry m) = is_inquiry_kind kind
asks kind (act.Undo original left) = is_undo_kind kind
asks kind (act.Complete m hold) = is_completion_kind kind

-- both got equally far
abbrev pub same_standing : Standing → Standing → Bool
same_standing Waiting Waiting = true
same_standing Granted Granted = true
same_standing Refused Refused = true
same_standing _ _ = false

-- an order of that kind that got so far
abbrev pub is_such : Kind → Standing → Asked → Bool
is_such kind state a = asks kind a.order.act && same_standing (standing_of a.code) state

-- there is a follower, of that kind, and it got so far
abbrev pub is_such_follower : Kind → Standing → Option Asked → Bool
is_such_follower kind state None = false
is_such_follower kind state (Some a) = is_such kind state a

-- the order of that place, or its follower
abbrev pub is_such_side : Kind → Standing → Side → Bool
is_such_side kind state s = is_such kind state s.first || is_such_follower kind state s.follower

-- how many places have an order of that kind that got so far
abbrev pub count_of : Kind → Standing → List Side → ℕ
count_of kind state sides = count_by (is_such_side kind state) sides

-- how far the orders of that kind got
abbrev pub counts_of : Kind → List Side → Counts
counts_of kind sides = record {
  waiting = count_of kind Waiting sides;
  granted = count_of kind Granted sides;
  refused = count_of kind Refused sides;
}
