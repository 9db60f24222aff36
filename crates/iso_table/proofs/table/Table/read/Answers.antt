use Rattle.std.proofs.Common.{◌≡◌, ◌≢◌, Some}
use Rattle.std.proofs.lemmas.Result.{err_from_is_err_and}
use Rattle.std.proofs.lemmas.Result.{IfOk-weaker, IfErr-weaker, IfErr-at_err}
use Rattle.serde_json.specs.View.{view}
use Rattle.iso_table.specs.declared.fault.TableFault.{TableFault}
use Rattle.iso_table.specs.declared.fault.TableFault.TheVariants.{NotJson, Memory}
use Rattle.iso_table.specs.Layout.{Layout}
use Rattle.iso_table.specs.Accepted.{IsAcceptable, Holds, contents, draft_fault}
use Rattle.iso_table.specs.Document.{IsTableOf, IsDocumentFault}
use Rattle.iso_table.proofs.DocumentLemmas.{table_found, table_refused, draft_refused, fault_is_json}
use Rattle.iso_table.proofs.table.Table.read.Goals as goal

pub returns-clause-ok : goal.returns-clause-ok
returns-clause-ok c =
    let d = view c.in_ok-value.value in
    let draft = contents c.in_ok-draft.draft in
    IfOk-weaker c.check.result (λ (t : Layout). IsAcceptable draft × Holds t draft) (IsTableOf c.args.text.now)
    (λ t h. (d, draft, c.in_ok-value.ensures.ok, table_found d draft c.in_ok-draft.ensures.ok h.0, h.1)) c.check.ensures.ok

pub returns-clause-not_json : goal.returns-clause-not_json
returns-clause-not_json c = λ h utf8.
    let draft = contents c.in_ok-draft.draft in
    absurd (fault_is_json draft (IfErr-at_err (λ (e : TableFault). e ≢ Memory → draft_fault draft ≡ Some e) h c.check.ensures.fault (λ e. cc)))

pub returns-clause-fault : goal.returns-clause-fault
returns-clause-fault c =
    let d = view c.in_ok-value.value in
    let draft = contents c.in_ok-draft.draft in
    IfErr-weaker c.check.result (λ (e : TableFault). e ≢ Memory → draft_fault draft ≡ Some e) (λ (e : TableFault). e ≢ Memory → e ≢ NotJson → IsDocumentFault c.args.text.now e)
    (λ e h. λ not_memory not_json. (d, c.in_ok-value.ensures.ok, table_refused d draft e c.in_ok-draft.ensures.ok (h not_memory))) c.check.ensures.fault

pub returns-in_err-draft-clause-fault : goal.returns-in_err-draft-clause-fault
returns-in_err-draft-clause-fault c =
    let d = view c.in_ok-value.value in
    let p = err_from_is_err_and c.from_residual-in_err-draft.result c.from_residual-in_err-draft.ensures.1 in
    rw (p.1, p.2) (λ not_memory not_json. (d, c.in_ok-value.ensures.ok, draft_refused d _ (c.in_err-draft.ensures.fault not_memory)))
