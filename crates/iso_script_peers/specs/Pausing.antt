-- How long a turn waits for events.
use Rattle.std.specs.Prelude.{ℕ, ◌-◌, min, Bool, true, false, Option, Some, None}

-- as long as that at most, in milliseconds: so often a stop file is looked for
abbrev pub longest_pause : ℕ
longest_pause = 200

-- not at all where a peer goes on without an event; not beyond the moment of an answer that is held back
abbrev pub pause_of : Bool → Option ℕ → ℕ → ℕ
pause_of true due now = 0
pause_of false None now = longest_pause
pause_of false (Some at) now = min (at - now) longest_pause
