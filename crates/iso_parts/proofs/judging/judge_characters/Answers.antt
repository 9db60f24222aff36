use Rattle.std.proofs.Common.{rules, ◌≢◌, drop, arith}
use Rattle.iso_parts.specs.declared.class.CharClass.TheVariants as classes
use Rattle.iso_parts.specs.Part.{characters}
use Rattle.iso_parts.specs.Reading.{without_padding}
use Rattle.iso_parts.proofs.Judges.{any_packed}
use Rattle.iso_parts.proofs.judging.judge_characters.Goals as goal

pub returns-else-eq : goal.returns-else-eq
returns-else-eq c =
    let s = c.args.spec.now in
    let other : c.args.spec.now.class ≢ classes.N = search rules in
    let body = c.args.body.now in
    (without_padding s.pad (drop c.args.skip (characters body)), any_packed s c.args.skip body c.requires.good c.requires.coding other (λ i. omega (arith, c.type_inv.body i)))
