-- How a peer stands at a moment, in milliseconds of a clock that never goes back, and what is done with it then.
use Rattle.std.specs.Prelude.{ℕ, ◌-◌, ◌*◌, ◌==◌, nat_le, nat_lt, Bool, true, false, if◌then◌else◌, Option, Some, None, is_some}
use Rattle.iso_links.specs.declared.limits.Limits.{Limits}
use Rattle.iso_lines.specs.declared.standing.Closing.{Closing}
use Rattle.iso_lines.specs.declared.standing.Closing.TheVariants.{DoesNotRead, UnfinishedFrame, Idle}
use Rattle.iso_lines.specs.declared.standing.Doing.{Doing}
use Rattle.iso_lines.specs.declared.standing.Doing.TheVariants.{Reads, Waits, Closes}
use Rattle.iso_lines.specs.declared.standing.Standing.{Standing}

-- so many seconds have passed since a moment
abbrev pub has_passed : ℕ → ℕ → ℕ → Bool
has_passed seconds since now = nat_le (1000 * seconds) (now - since)

-- so many seconds have passed since a state began that lasts, if it does
abbrev pub lasts_too_long : ℕ → Option ℕ → ℕ → Bool
lasts_too_long seconds None now = false
lasts_too_long seconds (Some since) now = has_passed seconds since now

-- why a peer is late that the host reads from: its frame stays unfinished, or nothing comes
abbrev pub late_of : Limits → Standing → ℕ → Option Closing
late_of l s now =
    if lasts_too_long l.frame s.frame now then Some UnfinishedFrame
    else if has_passed l.idle s.heard now then Some Idle
    else None

-- the same of any peer that takes its answers: one that has ended goes once all are written, and one that isn't read from
-- isn't late
abbrev pub ending_of : Limits → Standing → ℕ → Option Closing → Option Closing
ending_of l s now (Some why) = if s.waiting == 0 then Some why else None
ending_of l s now None = if nat_le l.waiting s.waiting then None else late_of l s now

-- why a peer is to be closed, if it is
abbrev pub closing_of : Limits → Standing → ℕ → Option Closing
closing_of l s now =
    if lasts_too_long l.unread s.unread now then Some DoesNotRead else ending_of l s now s.ended

-- what is done with a peer that stays: it is read from, up to the bytes that may wait for it
abbrev pub staying_of : Limits → Standing → Doing
staying_of l s =
    if is_some s.ended then Waits else if nat_lt s.waiting l.waiting then Reads else Waits

-- what is done with a peer
abbrev pub doing_by : Limits → Standing → Option Closing → Doing
doing_by l s (Some why) = Closes why
doing_by l s None = staying_of l s

-- the same of a peer as it stands at a moment
abbrev pub doing_of : Limits → Standing → ℕ → Doing
doing_of l s now = doing_by l s (closing_of l s now)

-- since when a frame is unfinished, once bytes came: whether none is unfinished then, and whether the bytes end one
abbrev pub frame_since : Bool → Bool → Option ℕ → ℕ → Option ℕ
frame_since true ends began now = None
frame_since false true began now = Some now
frame_since false false None now = Some now
frame_since false false (Some since) now = Some since

-- a peer whose bytes came
abbrev pub hearing_of : Standing → ℕ → Bool → Bool → Standing
hearing_of s now is_whole ends =
    record s { heard = now; frame = frame_since is_whole ends s.frame now }

-- since when bytes wait: some were written now, or none
abbrev pub unread_since : Bool → Option ℕ → ℕ → Option ℕ
unread_since true began now = Some now
unread_since false None now = Some now
unread_since false (Some since) now = Some since

-- a state that lasts, begun anew now
abbrev pub begun_anew : Option ℕ → ℕ → Option ℕ
begun_anew None now = None
begun_anew (Some since) now = Some now

-- a peer, whose clocks stand still while the host reads nothing of it
abbrev pub paused_of : Limits → Standing → ℕ → Standing
paused_of l s now = if nat_le l.waiting s.waiting
    then record s { heard = now; frame = begun_anew s.frame now } else s

-- a peer for which so many bytes wait, once it was written to
abbrev pub writing_of : Limits → Standing → ℕ → ℕ → Bool → Standing
writing_of l s now waiting some = record (paused_of l s now) {
  waiting = waiting;
  unread = if waiting == 0 then None else unread_since some s.unread now;
}
