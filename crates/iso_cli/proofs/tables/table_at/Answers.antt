use Rattle.std.proofs.Common.{◌≡◌, List, ℕ, IfSome, Err, ap, subst, sym}
use Rattle.iso_table.specs.Document.{IsTableOf}
use Rattle.std.proofs.lemmas.Result.{err_from_is_err_and}
use Rattle.iso_cli.proofs.StreamingLemmas.{known_all}
use Rattle.iso_cli.proofs.RefusedLemmas.{holds_none}
use Rattle.iso_cli.proofs.tables.table_at.Goals as goal

pub returns-clause-ok : goal.returns-clause-ok
returns-clause-ok g c =
    known_all (g.S.Source.file c.args.source.now c.args.path.now) c.in_ok-text.text.items (λ text. IsTableOf text c.in_ok-from_json.field-0) c.in_ok-text.ensures.text
    (subst (λ (l : List ℕ). IsTableOf l c.in_ok-from_json.field-0) c.deref.ensures.value c.in_ok-from_json.ensures.ok)

pub returns-in_err-from_json-clause-stop : goal.returns-in_err-from_json-clause-stop
returns-in_err-from_json-clause-stop g c =
    let known = g.S.Source.file c.args.source.now c.args.path.now in
    let p = err_from_is_err_and c.from_residual-in_err-from_json.result c.from_residual-in_err-from_json.ensures.1 in
    let read : IfSome known (λ all. all ≡ c.deref.result.now) = subst (λ (l : List ℕ). IfSome known (λ all. all ≡ l)) (sym c.deref.ensures.value) c.in_ok-text.ensures.text in
    rw (p.1) (holds_none known c.deref.result.now _ p.0 read p.2 (λ q. c.in_err-from_json.ensures.not_json (ap Err q)) c.in_err-from_json.ensures.fault)
