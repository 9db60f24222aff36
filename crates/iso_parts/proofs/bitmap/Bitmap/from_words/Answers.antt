use Rattle.std.proofs.Common.{arith}
use Rattle.iso_parts.proofs.BitmapLaws.{words_number}
use Rattle.iso_parts.proofs.WalkLaws.{numbers_low}
use Rattle.iso_parts.proofs.bitmap.Bitmap.from_words.Goals as goal

pub returns-clause-members : goal.returns-clause-members
returns-clause-members c = numbers_low c.args.primary c.args.secondary c.if-primary-lt-FIRST_BIT.false c.ranges.primary.fits

pub returns-then-primary-lt-FIRST_BIT-clause-numbers : goal.returns-then-primary-lt-FIRST_BIT-clause-numbers
returns-then-primary-lt-FIRST_BIT-clause-numbers c = words_number c.args.primary c.args.secondary (omega (arith, c.if-primary-lt-FIRST_BIT.true)) c.requires

pub returns-clause-numbers : goal.returns-clause-numbers
returns-clause-numbers c = words_number _ c.args.secondary (omega (arith, c.if-primary-lt-FIRST_BIT.false, c.ranges.primary.fits)) c.requires

pub invariant_of-result : goal.invariant_of-result
invariant_of-result c = record { not_1 = c.if-primary-lt-FIRST_BIT.true; not_65 = c.requires }
