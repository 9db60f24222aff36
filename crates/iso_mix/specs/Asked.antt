-- The orders of a mix, and what was answered.
use Rattle.std.specs.Prelude.{◌==◌, ◌&&◌, ◌-◌, ◌/◌, ◌%◌, ℕ, Bool, true, false, List, Option, Some, None, option_map, slice_get, slice_set, nat_le, if◌then◌else◌}
use Rattle.iso_order.specs.declared.act.Act.{Act}
use Rattle.iso_order.specs.declared.act.Act.TheVariants.{Debit, Credit, Inquiry, Undo, Complete}
use Rattle.iso_order.specs.Order.{Instruction}
use Rattle.iso_mix.specs.declared.asked.Asked.{Asked}
use Rattle.iso_mix.specs.declared.asked.Side.{Side}

-- ---- where an order lies

-- trace numbers go down from 999999, two for each place: a hold or an inquiry, and what follows the hold
abbrev pub place_of : ℕ → ℕ
place_of stan = (999999 - stan) / 2

-- the second of a place
abbrev pub follows : ℕ → Bool
follows stan = (999999 - stan) % 2 == 1

-- the first order of a place, or its follower
abbrev pub part_of : Bool → Side → Option Asked
part_of true s = s.follower
part_of false s = Some s.first

-- the same of a place at which something lies, if it does
abbrev pub part_in : Bool → Option Side → Option Asked
part_in f None = None
part_in f (Some s) = part_of f s

-- the order of a trace number
abbrev pub asked_at : List Side → ℕ → Option Asked
asked_at sides stan =
    if nat_le stan 999999 then part_in (follows stan) (slice_get sides (place_of stan)) else None

-- what an order is sent as
abbrev pub order_in : Option Asked → Option Instruction
order_in None = None
order_in (Some a) = Some a.order

-- ---- what was answered

-- no answer counted yet
abbrev pub is_unanswered : Option ℕ → Bool
is_unanswered None = true
is_unanswered (Some code) = false

-- an order waits for its answer
abbrev pub is_open : Option Asked → Bool
is_open None = false
is_open (Some a) = is_unanswered a.code

-- the order of that trace number waits for its answer
abbrev pub is_open_at : List Side → ℕ → Bool
is_open_at sides stan = is_open (asked_at sides stan)

-- 00, and only 00, grants
abbrev pub is_granted : Option ℕ → Bool
is_granted None = false
is_granted (Some code) = code == 0

-- a debit of class 1
abbrev pub is_hold : Act → Bool
is_hold (Debit m) = true
is_hold (Credit m) = false
is_hold (Inquiry m) = false
is_hold (Undo original left) = false
is_hold (Complete m hold) = false

-- no order was made
abbrev pub is_nothing : Option Asked → Bool
is_nothing None = true
is_nothing (Some a) = false

-- a hold that was granted and that nothing follows
abbrev pub is_free : Side → Bool
is_free s = is_hold s.first.order.act && is_granted s.first.code && is_nothing s.follower

-- such a hold lies there
abbrev pub is_free_in : Option Side → Bool
is_free_in None = false
is_free_in (Some s) = is_free s

-- such a hold lies at that place
abbrev pub is_free_at : List Side → ℕ → Bool
is_free_at sides place = is_free_in (slice_get sides place)

-- ---- what changes

-- a change of what lies at a place, where anything does
abbrev pub changed_in : (Side → Side) → ℕ → List Side → Option Side → List Side
changed_in step place sides None = sides
changed_in step place sides (Some s) = slice_set sides place (step s)

-- a change of what lies at that place, if anything does
abbrev pub changed_at : (Side → Side) → ℕ → List Side → List Side
changed_at step place sides = changed_in step place sides (slice_get sides place)

-- the order got its answer, of that code
abbrev pub with_code : ℕ → Asked → Asked
with_code code a = record { order = a.order; code = Some code }

-- the first order of a place got its answer, or its follower did
abbrev pub answered : Bool → ℕ → Side → Side
answered true code s =
    record { place = s.place; first = s.first; follower = option_map (with_code code) s.follower }
answered false code s =
    record { place = s.place; first = with_code code s.first; follower = s.follower }

-- the order of that trace number got its first answer
abbrev pub sides_answered : ℕ → ℕ → List Side → List Side
sides_answered stan code sides = changed_at (answered (follows stan) code) (place_of stan) sides

-- an order without an answer
abbrev pub unanswered : Instruction → Asked
unanswered o = record { order = o; code = None }

-- an order follows the first one of a place
abbrev pub followed : Instruction → Side → Side
followed o s = record { place = s.place; first = s.first; follower = Some (unanswered o) }

-- an order follows the hold at a place
abbrev pub sides_followed : ℕ → Instruction → List Side → List Side
sides_followed place o sides = changed_at (followed o) place sides
