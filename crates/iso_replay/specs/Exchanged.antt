-- What an exchange with a host has done.
use Rattle.std.specs.Prelude.{◌≡◌, ℕ, ◌≤◌, ◌++◌, List, length, Option, true}
use Rattle.std.specs.Io.KnownBytes.{Appends}
use Rattle.iso_wire.specs.Framing.{Splits, is_bad_header}
use Rattle.iso_replay.specs.declared.exchange.Ending.{Ending}
use Rattle.iso_replay.specs.declared.exchange.Ending.TheVariants.{Whole, BadHeader, Closed, Silent}
use Rattle.iso_replay.specs.declared.running.Exchanged.{Exchanged}
use Rattle.iso_replay.specs.declared.running.Plan.{Plan}

-- the host took a front of the frames, and all bytes but so many
pub record IsSent (before after : Option (List ℕ)) (frames : List ℕ) (unsent : ℕ) : Type 0 where
  pub front : List ℕ
  pub rest : List ℕ
  pub taken : Appends before after front
  pub joined : frames ≡ front ++ rest
  pub left : unsent ≡ length rest

-- what holds where it ends so: all is sent and as many frames came as are wanted, or a header that came isn't of digits
abbrev pub EndsBy : Plan → Exchanged → Ending → Type 0
EndsBy plan done Whole =
    (done.unsent ≡ 0) × ((bodies : List (List ℕ)) (rest : List ℕ)
    → Splits plan.header done.came.items bodies rest → plan.wanted ≤ length bodies)
EndsBy plan done BadHeader = (bodies : List (List ℕ)) (rest : List ℕ)
    → Splits plan.header done.came.items bodies rest → is_bad_header plan.header rest ≡ true
EndsBy plan done Closed = Unit {0}
EndsBy plan done Silent = Unit {0}

-- what holds of an exchange, by how it ended
abbrev pub Ends : Plan → Exchanged → Type 0
Ends plan done = EndsBy plan done done.ending
