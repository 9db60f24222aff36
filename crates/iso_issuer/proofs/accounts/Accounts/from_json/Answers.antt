use Rattle.std.proofs.Common.{Err, ap}
use Rattle.std.proofs.lemmas.Result.{err_from_is_err_and}
use Rattle.serde_json.specs.View.{view}
use Rattle.iso_issuer.specs.Balances.{accounts_of}
use Rattle.iso_issuer.proofs.Documents.{lists-text, fault-shape, fault-rows, same_error, shape-json}
use Rattle.iso_issuer.proofs.accounts.Accounts.from_json.Goals as goal

pub returns-clause-ok : goal.returns-clause-ok
returns-clause-ok c =
    let rows = c.in_ok-listed.listed.items in
    let opened = rw c.deref.ensures.value at c.in_ok-balances.ensures in
    lists-text c.args.text.now (view c.in_ok-value.value) rows (accounts_of c.in_ok-balances.balances) c.in_ok-value.ensures.utf8 c.in_ok-value.ensures.read c.in_ok-listed.ensures.ok
    opened.none opened.ok

pub returns-in_err-value-clause-not_json : goal.returns-in_err-value-clause-not_json
returns-in_err-value-clause-not_json c =
    let p = err_from_is_err_and c.from_residual.result c.from_residual.ensures.1 in
    rw (p.1, p.2) (λ json. c.in_err-value.ensures.not_json (ap Err (same_error c.in_err-value.field-0.0 _ json)))

pub returns-in_err-value-clause-fault : goal.returns-in_err-value-clause-fault
returns-in_err-value-clause-fault c =
    let p = err_from_is_err_and c.from_residual.result c.from_residual.ensures.1 in
    rw (p.1, p.2) (λ other json. absurd (json (c.in_err-value.ensures.fault other)))

pub returns-in_err-listed-clause-not_json : goal.returns-in_err-listed-clause-not_json
returns-in_err-listed-clause-not_json c =
    let p = err_from_is_err_and c.from_residual-in_err-listed.result c.from_residual-in_err-listed.ensures.1 in
    rw (p.1, p.2) (λ json. absurd (shape-json c.in_err-listed.field-0.0 c.in_err-listed.ensures.fault (same_error c.in_err-listed.field-0.0 _ json)))

pub returns-in_err-listed-clause-fault : goal.returns-in_err-listed-clause-fault
returns-in_err-listed-clause-fault c =
    let p = err_from_is_err_and c.from_residual-in_err-listed.result c.from_residual-in_err-listed.ensures.1 in
    rw (p.1, p.2) (λ other json. fault-shape c.args.text.now (view c.in_ok-value.value) c.in_err-listed.field-0.0 c.in_ok-value.ensures.utf8 c.in_ok-value.ensures.read
    (c.in_err-listed.ensures.shape other) (c.in_err-listed.ensures.fault other))

pub returns-in_err-balances-clause-not_json : goal.returns-in_err-balances-clause-not_json
returns-in_err-balances-clause-not_json c =
    let p = err_from_is_err_and c.from_residual-in_err-balances.result c.from_residual-in_err-balances.ensures.1 in
    rw (p.1, p.2) (λ json. absurd (c.in_err-balances.ensures.json (ap Err (same_error c.in_err-balances.field-0.0 _ json))))

pub returns-in_err-balances-clause-fault : goal.returns-in_err-balances-clause-fault
returns-in_err-balances-clause-fault c =
    let p = err_from_is_err_and c.from_residual-in_err-balances.result c.from_residual-in_err-balances.ensures.1 in
    let fault = rw c.deref.ensures.value at c.in_err-balances.ensures.fault in
    rw (p.1, p.2) (λ other json. fault-rows c.args.text.now (view c.in_ok-value.value) c.in_ok-listed.listed.items c.in_err-balances.field-0.0 c.in_ok-value.ensures.utf8 c.in_ok-value.ensures.read
    c.in_ok-listed.ensures.ok (fault other))
