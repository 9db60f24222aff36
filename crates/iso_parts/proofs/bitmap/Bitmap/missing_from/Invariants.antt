use Rattle.std.proofs.Common.{◌≡◌, length}
use Rattle.iso_parts.specs.Bitmap.{contains}
use Rattle.iso_parts.specs.Numbers.{members, first_missing}
use Rattle.iso_parts.proofs.bitmap.Bitmap.missing_from.Given as goal

abbrev pub invariant-loop-n : goal.invariant-loop-n
invariant-loop-n l = record { same : first_missing (contains l.other) (members l.rest) ≡ first_missing (contains l.other) (members l.fn.self) }

abbrev pub decreases-loop-n : goal.decreases-loop-n
decreases-loop-n l = length (members l.rest)
