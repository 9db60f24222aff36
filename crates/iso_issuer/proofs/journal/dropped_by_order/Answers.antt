use Rattle.std.proofs.Common.{sym, ◌∙◌}
use Rattle.iso_issuer.proofs.Seen.{dropped-touched}
use Rattle.iso_issuer.proofs.journal.dropped_by_order.Goals as goal

pub returns-in-Some : goal.returns-in-Some
returns-in-Some c = λ es found.
    c.dropped_of_entry.ensures
    ∙ dropped-touched es c.args.order.now c.in-Undo.original c.in-Undo.left c.in-Some.reversed (sym c.in-Undo.ensures.value) (sym c.in-Some.is ∙ found)
