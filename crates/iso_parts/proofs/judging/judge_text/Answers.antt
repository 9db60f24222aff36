use Rattle.std.proofs.Common.{sym, ◌∙◌}
use Rattle.iso_parts.specs.Reading.{without_padding}
use Rattle.iso_parts.proofs.Judges.{value_is}
use Rattle.iso_parts.proofs.judging.judge_text.Goals as goal

pub returns-then-are_in_class : goal.returns-then-are_in_class
returns-then-are_in_class c =
    let s = c.args.spec.now in
    (without_padding s.pad c.args.text.now, value_is s c.args.text.now (sym c.are_in_class.ensures ∙ c.if-are_in_class.true))
