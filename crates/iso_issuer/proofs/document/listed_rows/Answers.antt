use Rattle.std.proofs.Common.{ap, refl, sym, ◌∙◌}
use Rattle.std.proofs.lemmas.Result.{err_from_is_err_and}
use Rattle.serde_json.specs.View.{view, items_view}
use Rattle.serde_json.specs.declared.value.Value.{Value}
use Rattle.iso_issuer.specs.Document.{listed_in, listed_rows}
use Rattle.iso_issuer.proofs.Documents.{rows_more, rows_first, rows_all, rows_none}
use Rattle.iso_issuer.proofs.document.listed_rows.Goals as goal

pub loop-value-preserved : goal.loop-value-preserved
loop-value-preserved c =
    let is = ap (λ (v : Value). listed_in (view v)) (sym c.value-item.is) ∙ sym c.in-Some.ensures in
    rw c.in_ok-push.ensures.items (rows_more c.args.values.now c.loop-value.value-index c.value-item.result c.in-Some.row c.loop-value.rows.items _ c.loop-value-test.true is c.loop-value.invariant)

pub loop-value-init : goal.loop-value-init
loop-value-init c = rw c.new-rows.ensures.items (rows_first (listed_rows (items_view c.args.values.now)))

pub returns-clause-ok : goal.returns-clause-ok
returns-clause-ok c = rows_all c.args.values.now c.loop-value.value-index c.loop-value.rows.items _ c.loop-value-test.false c.loop-value.invariant

pub returns-in_default-clause-fault : goal.returns-in_default-clause-fault
returns-in_default-clause-fault c = λ _. refl

pub returns-in_default-clause-shape : goal.returns-in_default-clause-shape
returns-in_default-clause-shape c = λ _.
    let is = ap (λ (v : Value). listed_in (view v)) (sym c.value-item.is) ∙ sym c.in_default.ensures in
    rows_none c.args.values.now c.loop-value.value-index c.value-item.result c.loop-value.rows.items _ c.loop-value-test.true is c.loop-value.invariant

pub returns-in_err-push-clause-fault : goal.returns-in_err-push-clause-fault
returns-in_err-push-clause-fault c =
    let p = err_from_is_err_and c.from_residual.result c.from_residual.ensures.1 in
    rw (p.1, p.2) (λ other. absurd (other refl))

pub returns-in_err-push-clause-shape : goal.returns-in_err-push-clause-shape
returns-in_err-push-clause-shape c =
    let p = err_from_is_err_and c.from_residual.result c.from_residual.ensures.1 in
    rw (p.1, p.2) (λ other. absurd (other refl))
