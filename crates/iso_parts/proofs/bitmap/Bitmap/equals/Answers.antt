-- Two sets are the same where each has all numbers of the other.
use Rattle.std.proofs.Common.{rules}
use Rattle.iso_parts.proofs.bitmap.Bitmap.equals.Goals as goal

pub returns-then-has_all : goal.returns-then-has_all
returns-then-has_all c = search rules
