-- How an exchange with a host stands, and when it ends. Moments are milliseconds of a clock that never goes back.
use Rattle.std.specs.Prelude.{ℕ, ◌-◌, ◌&&◌, nat_le, Bool, if◌then◌else◌, List, length, ◌==◌, Option, Some, None}
use Rattle.iso_wire.specs.Framing.{is_bad_header}
use Rattle.iso_replay.specs.Hearing.{Came}
use Rattle.iso_replay.specs.declared.exchange.Ending.{Ending}
use Rattle.iso_replay.specs.declared.exchange.Ending.TheVariants.{Whole, BadHeader, Closed, Silent}

-- the bytes that are still to be sent, those that came, how many frames are wanted, how long none may come, when a byte moved
-- last, and whether the host has ended its side
pub record Standing : Type 0 where
  pub unsent : List ℕ
  pub heard : Came
  pub wanted : ℕ
  pub patience : ℕ
  pub moved : ℕ
  pub has_ended : Bool

-- all is sent, and as many frames came as are wanted
abbrev pub is_whole : Standing → List (List ℕ) → Bool
is_whole s bodies = length s.unsent == 0 && nat_le s.wanted (length bodies)

-- how it ends at a moment, if it does, where the bytes that came are these frames and a rest
abbrev pub ending_of : Standing → List (List ℕ) → List ℕ → ℕ → Option Ending
ending_of s bodies rest now =
    if is_whole s bodies then Some Whole
    else if is_bad_header s.heard.header rest then Some BadHeader
    else if s.has_ended then Some Closed
    else if nat_le s.patience (now - s.moved) then Some Silent
    else None
