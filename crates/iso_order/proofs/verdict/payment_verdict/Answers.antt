use Rattle.std.proofs.Common.{◌++◌, sym, ◌∙◌}
use Rattle.iso_order.specs.Verdict.{account_lines, act_lines, amount_lines, credit_verdict}
use Rattle.iso_order.proofs.verdict.payment_verdict.Goals as goal

pub returns-in-Ok-clause-verdict : goal.returns-in-Ok-clause-verdict
returns-in-Ok-clause-verdict c =
    let m = c.args.message.now in
    c.account_verdict.ensures.verdict ∙ sym (c.in-Ok.ensures.lines (account_lines m ++ act_lines m ++ amount_lines m) (credit_verdict m))

pub returns-in-Err-clause-verdict : goal.returns-in-Err-clause-verdict
returns-in-Err-clause-verdict c =
    let m = c.args.message.now in
    sym (c.in-Err.ensures.refused (account_lines m ++ act_lines m ++ amount_lines m) (credit_verdict m))
