use Rattle.std.proofs.Common.{◌≡◌, arith}
use Rattle.std.specs.Int.Bits.{bit_and}
use Rattle.std.proofs.lemmas.Bool.Decides.{nat_tests}
use Rattle.iso_parts.proofs.WordSets.{words_within, first_within, second_within}
use Rattle.iso_parts.proofs.bitmap.Bitmap.has_all.Goals as goal

pub returns-then-other-self : goal.returns-then-other-self
returns-then-other-self c =
    let set = c.args.self.now in
    let other = c.args.other.now in (
      λ same. let two : bit_and other.secondary set.secondary ≡ other.secondary = grind (arith, nat_tests) in words_within other.primary other.secondary set.primary set.secondary c.if-other-self.true two,
      λ all. let two = second_within other.primary other.secondary set.primary set.secondary (omega (arith, other.not_65)) all in grind (arith, nat_tests),
    )

pub returns-else-other-self : goal.returns-else-other-self
returns-else-other-self c =
    let set = c.args.self.now in
    let other = c.args.other.now in (
      λ same. let one : bit_and other.primary set.primary ≡ other.primary = grind (arith, nat_tests) in absurd (c.if-other-self.false one),
      λ all. absurd (c.if-other-self.false (first_within other.primary other.secondary set.primary set.secondary (omega (arith, other.not_1)) all)),
    )
