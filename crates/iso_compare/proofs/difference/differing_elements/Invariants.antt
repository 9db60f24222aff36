use Rattle.iso_parts.specs.Bitmap.{contains}
use Rattle.iso_compare.specs.Differing.{IsSameAt}
use Rattle.iso_compare.proofs.Told.{Told}
use Rattle.iso_compare.proofs.difference.differing_elements.Given as goal

abbrev pub invariant-loop-n : goal.invariant-loop-n
invariant-loop-n l = Told (IsSameAt l.left.elements l.right.elements) (contains l.found) l.n
