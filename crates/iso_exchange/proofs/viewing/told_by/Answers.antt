use Rattle.std.proofs.Common.{sym, ◌∙◌, arith}
use Rattle.iso_order.specs.Fields.{text}
use Rattle.iso_exchange.proofs.Telling.{not-large}
use Rattle.iso_exchange.proofs.viewing.told_by.Goals as goal

pub returns-in_err-trace : goal.returns-in_err-trace
returns-in_err-trace c = λ m type sent stan acquirer code.
    absurd (not-large c.decimals.ensures 6 6 c.in_ok-number.number 999999 (text m 11) (sym c.in_ok-number.was ∙ stan) (omega arith) c.in_err-trace.ensures)

pub returns-in_err-decided : goal.returns-in_err-decided
returns-in_err-decided c = λ m type sent stan acquirer code.
    absurd (not-large c.decimals.ensures 2 2 c.in_ok-response.response 99 (text m 39) (sym c.in_ok-response.was ∙ code) (omega arith) c.in_err-decided.ensures)
