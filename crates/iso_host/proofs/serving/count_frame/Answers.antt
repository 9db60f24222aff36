use Rattle.std.proofs.Common.{refl, subst, sym, Option}
use Rattle.iso_order.specs.declared.verdict.Verdict.{Verdict}
use Rattle.iso_host.specs.Hosting.{IsHandled}
use Rattle.iso_host.specs.Reporting.{ReportsOneMore}
use Rattle.iso_host.specs.declared.fault.Report.{Report}
use Rattle.iso_host.proofs.AnswerLemmas.{asks_nothing}
use Rattle.iso_host.proofs.serving.count_frame.Goals as goal

pub returns-in-Unreadable : goal.returns-in-Unreadable
returns-in-Unreadable c =
    λ t books body is.
    let fault = subst (IsHandled t books body) c.in-Unreadable.is is in
    let old = c.args.report.now in
    let new : Report = record { frames = c.saturating_add-report.result; answered = old.answered; silent = old.silent; unreadable = c.saturating_add-report-in-Unreadable.result } in
    subst (λ (asked : Option Verdict). ReportsOneMore old new asked) (sym (asks_nothing t books body c.in-Unreadable.field-0 fault))
    (record { frames = c.saturating_add-report.ensures; answered = refl; silent = refl; unreadable = c.saturating_add-report-in-Unreadable.ensures })
