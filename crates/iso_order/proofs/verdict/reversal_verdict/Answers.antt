use Rattle.std.proofs.Common.{sym, ◌∙◌}
use Rattle.iso_order.specs.Fields.{is_replacement, left_of}
use Rattle.iso_order.proofs.Table.{some_if, none_if, is_replaced, not_replaced}
use Rattle.iso_order.proofs.verdict.reversal_verdict.Goals as goal

pub returns-in-Some-clause-verdict : goal.returns-in-Some-clause-verdict
returns-in-Some-clause-verdict c = λ lines last.
    let m = c.args.message.now in
    let told = some_if (is_replacement m) (left_of m) c.in-Some.left c.in-Some.ensures.value in
    c.original_verdict.ensures.verdict lines last ∙ sym (is_replaced m lines last told.0)

pub returns-in-None-clause-verdict : goal.returns-in-None-clause-verdict
returns-in-None-clause-verdict c = λ lines last.
    let m = c.args.message.now in
    sym (not_replaced m lines last c.requires.class (none_if (is_replacement m) (left_of m) c.in-None.ensures.value))

pub original_verdict-requires-clause-left : goal.original_verdict-requires-clause-left
original_verdict-requires-clause-left c = (some_if (is_replacement c.args.message.now) (left_of c.args.message.now) c.in-Some.left c.in-Some.ensures.value).1
