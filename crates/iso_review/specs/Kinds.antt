-- Kinds of lengths.
use Rattle.iso_parts.specs.declared.digits.Digits.{Digits}
use Rattle.iso_parts.specs.declared.prefix.Length.{Length}
use Rattle.iso_parts.specs.declared.prefix.Length.TheVariants as lengths
use Rattle.iso_review.specs.declared.kinds.LengthKind.{LengthKind}
use Rattle.iso_review.specs.declared.kinds.LengthKind.TheVariants as kinds

-- the kind of a length
abbrev pub kind_of : Length → LengthKind
kind_of lengths.Fixed = kinds.Fixed
kind_of (lengths.LL d) = kinds.LL
kind_of (lengths.LLL d) = kinds.LLL
kind_of (lengths.LLLL d) = kinds.LLLL

-- the length of the kind, its digits written so
abbrev pub with_digits : LengthKind → Digits → Length
with_digits kinds.Fixed d = lengths.Fixed
with_digits kinds.LL d = lengths.LL d
with_digits kinds.LLL d = lengths.LLL d
with_digits kinds.LLLL d = lengths.LLLL d
