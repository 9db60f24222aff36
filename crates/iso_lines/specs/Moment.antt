-- A moment of a run.
use Rattle.std.specs.Prelude.{ℕ, ◌/◌}
use Rattle.iso_lines.specs.declared.moment.Moment.{Moment}

-- milliseconds of the clock that never goes back
abbrev pub millis_of : Moment → ℕ
millis_of now = now.micros / 1000
