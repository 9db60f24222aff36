use Rattle.std.proofs.Common.{◌≡◌, ℕ, List, Option, Some, None, IfSome, map, ap, subst, sym}
use Rattle.std.specs.Borrow.{Bor}
use Rattle.std.specs.Io.KnownBytes.{Appends}
use Rattle.iso_host.specs.declared.fault.Report.{Report}
use Rattle.iso_cli.specs.Connections.{report_text}
use Rattle.iso_cli.proofs.JobLemmas.{checks, converts, echoes, refused, runs, shows}
use Rattle.iso_cli.proofs.RefusedLemmas.{report_failure, report_whole, told_failure, told_whole}
use Rattle.iso_cli.proofs.act.act.Goals as goal

pub returns-in-Ok-None-clause-check : goal.returns-in-Ok-None-clause-check
returns-in-Ok-None-clause-check g c = λ zero. checks _ _ _ c.in-Ok-None.ensures

pub returns-in-Ok-None-clause-show : goal.returns-in-Ok-None-clause-show
returns-in-Ok-None-clause-show g c = λ zero. shows _ _ _ c.in-Ok-None.ensures

pub returns-in-Ok-None-clause-convert : goal.returns-in-Ok-None-clause-convert
returns-in-Ok-None-clause-convert g c = λ zero. converts _ _ _ c.in-Ok-None.ensures

pub returns-in-Ok-None-clause-run : goal.returns-in-Ok-None-clause-run
returns-in-Ok-None-clause-run g c = λ zero.
    let held = g.F.Outlet.contents c.args.faults.now in
    let none : c.in-Ok-None.field-0 ≡ None = cc (c.in-Ok-None.is) in
    runs _ _ _ c.in-Ok-None.ensures held held (subst (λ (x : Option Report). IfSome x (λ r. Appends held held (report_text r))) (sym none) tt)

pub returns-in-Ok-None-clause-echo : goal.returns-in-Ok-None-clause-echo
returns-in-Ok-None-clause-echo g c = λ none zero. echoes _ _ _ c.in-Ok-None.ensures (ap (λ (l : List (Bor (List ℕ))). map (λ w. w.now) l) none)

pub returns-in-Ok-Some-clause-check : goal.returns-in-Ok-Some-clause-check
returns-in-Ok-Some-clause-check g c = λ zero. checks _ _ _ c.in-Ok-Some.ensures

pub returns-in-Ok-Some-clause-show : goal.returns-in-Ok-Some-clause-show
returns-in-Ok-Some-clause-show g c = λ zero. shows _ _ _ c.in-Ok-Some.ensures

pub returns-in-Ok-Some-clause-convert : goal.returns-in-Ok-Some-clause-convert
returns-in-Ok-Some-clause-convert g c = λ zero. converts _ _ _ c.in-Ok-Some.ensures

pub returns-in-Ok-Some-clause-run : goal.returns-in-Ok-Some-clause-run
returns-in-Ok-Some-clause-run g c = λ zero.
    let held = g.F.Outlet.contents c.args.faults.now in
    let told = g.F.Outlet.contents c.tell_report.new.faults in
    let some : c.in-Ok-Some.field-0 ≡ Some c.in-Ok-Some.report = cc (c.in-Ok-Some.is) in
    runs _ _ _ c.in-Ok-Some.ensures held told
    (subst (λ (x : Option Report). IfSome x (λ r. Appends held told (report_text r))) (sym some)
    (report_whole _ _ c.in-Ok-Some.report c.tell_report.result c.tell_report.ensures.told zero))

pub returns-in-Ok-Some-clause-echo : goal.returns-in-Ok-Some-clause-echo
returns-in-Ok-Some-clause-echo g c = λ none zero. echoes _ _ _ c.in-Ok-Some.ensures (ap (λ (l : List (Bor (List ℕ))). map (λ w. w.now) l) none)

pub returns-in-Err-clause-refused : goal.returns-in-Err-clause-refused
returns-in-Err-clause-refused g c = λ one.
    let told = told_whole _ _ c.in-Err.stop c.tell.result c.tell.ensures.line one in
    refused _ _ _ _ _ c.in-Err.stop (c.in-Err.ensures.refused told.0) told.0 told.1

pub returns-in-Err-clause-failed : goal.returns-in-Err-clause-failed
returns-in-Err-clause-failed g c = λ three.
    told_failure _ _ _ _ _ c.in-Err.stop c.tell.result c.tell.ensures.line three c.in-Err.ensures.turns

pub returns-in-Ok-Some-clause-failed : goal.returns-in-Ok-Some-clause-failed
returns-in-Ok-Some-clause-failed g c = λ three.
    report_failure _ _ _ _ _ c.in-Ok-Some.report c.tell_report.result c.tell_report.ensures.told three
