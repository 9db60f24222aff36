use Rattle.std.proofs.Common.{sym, ◌∙◌, arith}
use Rattle.iso_order.proofs.Valid.{debited-valid, credit-valid}
use Rattle.iso_order.proofs.verdict.amount_verdict.Goals as goal

pub valid-requires : goal.valid-requires
valid-requires c =
    let below = c.in-Some.ensures.below in
    rw c.debited_by.ensures
    (debited-valid c.args.key.now (record { pan = c.args.money.pan; amount = c.in-Some.amount; currency = c.args.money.currency }) c.requires.valid c.requires.account
    c.args.hold c.requires.class c.requires.advice c.requires.own (omega (arith, c.in-Some.amount-test.1)) (omega (arith, below)))

pub valid-requires-2 : goal.valid-requires-2
valid-requires-2 c =
    let below = c.in-Some.ensures.below in
    credit-valid c.args.key.now (record { pan = c.args.money.pan; amount = c.in-Some.amount; currency = c.args.money.currency }) c.requires.valid c.requires.account
    (c.requires.credit (sym c.is_debit.ensures ∙ c.if-is_debit.false)) (omega (arith, c.in-Some.amount-test.1)) (omega (arith, below))
