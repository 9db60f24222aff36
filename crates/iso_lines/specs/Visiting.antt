-- What is done with a visitor at a moment, in milliseconds of a clock that never goes back.
use Rattle.std.specs.Prelude.{ℕ, ◌||◌, nat_lt, if◌then◌else◌}
use Rattle.iso_lines.specs.Standing.{has_passed}
use Rattle.iso_lines.specs.declared.visiting.TheConstants.{MOST_REQUEST, STAY}
use Rattle.iso_lines.specs.declared.visiting.Visiting.{Visiting}
use Rattle.iso_lines.specs.declared.visiting.Visit.{Visit}
use Rattle.iso_lines.specs.declared.visiting.Visit.TheVariants.{Reads, Writes, Closes}

-- its request is read, up to the most bytes that one may have
abbrev pub asking_of : Visiting → Visit
asking_of v = if nat_lt v.held MOST_REQUEST then Reads else Closes

-- its answer is written, and then it goes
abbrev pub telling_of : Visiting → Visit
telling_of v = if nat_lt 0 v.waiting then Writes else Closes

-- it goes at once where its connection is over or it stayed too long; else it asks first, and is told then
abbrev pub visit_of : Visiting → ℕ → Visit
visit_of v now =
    if v.is_over || has_passed STAY v.since now then Closes
    else if v.is_answered then telling_of v
    else asking_of v
