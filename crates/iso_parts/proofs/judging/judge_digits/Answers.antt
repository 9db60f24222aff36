use Rattle.std.proofs.Common.{sym, drop, ◌∙◌}
use Rattle.iso_parts.specs.Part.{characters}
use Rattle.iso_parts.specs.Reading.{without_padding}
use Rattle.iso_parts.proofs.Judges.{digits_judged, digits_refused}
use Rattle.iso_parts.proofs.judging.judge_digits.Goals as goal

pub returns-then-are_unpadded_digits : goal.returns-then-are_unpadded_digits
returns-then-are_unpadded_digits c =
    let s = c.args.spec.now in
    let w = drop c.args.skip (characters c.args.body.now) in
    (without_padding s.pad w, digits_judged s w c.requires.class (sym c.are_unpadded_digits.ensures ∙ c.if-are_unpadded_digits.true))

pub returns-else-are_unpadded_digits : goal.returns-else-are_unpadded_digits
returns-else-are_unpadded_digits c =
    digits_refused c.args.spec.now (drop c.args.skip (characters c.args.body.now)) c.requires.class (sym c.are_unpadded_digits.ensures ∙ c.if-are_unpadded_digits.false)
