-- When the answer to a message goes out.
use Rattle.std.specs.Prelude.{ℕ, ◌+◌, ◌-◌, ◌^◌, min}
use Rattle.iso_script.specs.declared.behaviour.Behaviour.{Behaviour}
use Rattle.iso_script.specs.declared.behaviour.Behaviour.TheVariants.{Honest, Ruled}
use Rattle.iso_script.specs.declared.behaviour.Deed.{Deed}
use Rattle.iso_script.specs.declared.behaviour.Deed.TheVariants as deeds
use Rattle.iso_script_peers.specs.declared.going.Going.{Going}
use Rattle.iso_script_peers.specs.declared.going.Going.TheVariants.{Now, At, Cut}

-- the last moment of the clock, in milliseconds
abbrev pub last_moment : ℕ
last_moment = 2 ^ 64 - 1

-- a delay puts it off; a cut closes the connection in its place
abbrev pub going_by : Deed → ℕ → Going
going_by (deeds.Answer code) now = Now
going_by (deeds.Delay time) now = At (min (now + time) last_moment)
going_by deeds.Silent now = Now
going_by deeds.Cut now = Cut
going_by deeds.Garbage now = Now

-- when an answer goes out, if it does, by the rule that decided it or by none
abbrev pub going : Behaviour → ℕ → Going
going Honest now = Now
going (Ruled number deed) now = going_by deed now
