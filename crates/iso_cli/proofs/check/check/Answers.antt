use Rattle.std.proofs.Common.{List, ℕ, ap, subst, ◌∙◌, arith}
use Rattle.std.proofs.lemmas.Result.{err_from_is_err_and}
use Rattle.std.specs.Io.KnownBytes.{Appends}
use Rattle.iso_table.specs.Layout.{Layout}
use Rattle.iso_cli.specs.Check.{ChecksOnStreams}
use Rattle.iso_cli.specs.Stop.{status_of}
use Rattle.iso_cli.proofs.RefusedLemmas.{handed_ok, handed_turns, handed_words, write_stops, write_turns, write_words}
use Rattle.iso_cli.proofs.StreamingLemmas.{where_ok}
use Rattle.iso_cli.proofs.check.check.Goals as goal

pub returns-in_err-table-clause-stop : goal.returns-in_err-table-clause-stop
returns-in_err-table-clause-stop g c =
    let p = err_from_is_err_and c.from_residual.result c.from_residual.ensures.1 in
    rw (p.1, p.2) (c.in_err-table.ensures.stop)

pub returns-clause-stop : goal.returns-clause-stop
returns-clause-stop g c = write_stops c.write_output.result _ c.write_output.ensures.stop

pub returns-in_err-table-clause-words : goal.returns-in_err-table-clause-words
returns-in_err-table-clause-words g c = handed_words _ _ (err_from_is_err_and c.from_residual.result c.from_residual.ensures.1) c.in_err-table.ensures.words

pub returns-in_err-table-clause-turns : goal.returns-in_err-table-clause-turns
returns-in_err-table-clause-turns g c = handed_turns _ _ (err_from_is_err_and c.from_residual.result c.from_residual.ensures.1) c.in_err-table.ensures.turns

pub returns-in_err-table-clause-line : goal.returns-in_err-table-clause-line
returns-in_err-table-clause-line g c = handed_ok _ _ (err_from_is_err_and c.from_residual.result c.from_residual.ensures.1) _

pub returns-in_err-line-clause-words : goal.returns-in_err-line-clause-words
returns-in_err-line-clause-words g c = handed_words _ _ (err_from_is_err_and c.from_residual-in_err-line.result c.from_residual-in_err-line.ensures.1) (λ is. cc)

pub returns-in_err-line-clause-turns : goal.returns-in_err-line-clause-turns
returns-in_err-line-clause-turns g c = handed_turns _ _ (err_from_is_err_and c.from_residual-in_err-line.result c.from_residual-in_err-line.ensures.1) (λ is. cc)

pub returns-in_err-line-clause-line : goal.returns-in_err-line-clause-line
returns-in_err-line-clause-line g c = handed_ok _ _ (err_from_is_err_and c.from_residual-in_err-line.result c.from_residual-in_err-line.ensures.1) _

pub returns-clause-words : goal.returns-clause-words
returns-clause-words g c = write_words c.write_output.result c.write_output.ensures.stop

pub returns-clause-turns : goal.returns-clause-turns
returns-clause-turns g c = write_turns c.write_output.result c.write_output.ensures.stop

pub returns-clause-line : goal.returns-clause-line
returns-clause-line g c =
    let table : Layout = c.in_ok-table.table in
    let old = g.O.Outlet.contents c.args.output.now in
    let new = g.O.Outlet.contents c.write_output.new.output in
    where_ok c.write_output.result (Appends old new c.as_bytes.result.now) (ChecksOnStreams (g.S.Source.file c.args.source.now) c.args.table.now old new)
    (λ written. (table, c.in_ok-table.ensures.ok, subst (λ (l : List ℕ). Appends old new l) (c.as_bytes.ensures.value ∙ c.in_ok-line.ensures) written))
    c.write_output.ensures.written

pub returns-in_err-line-clause-stop : goal.returns-in_err-line-clause-stop
returns-in_err-line-clause-stop g c =
    let p = err_from_is_err_and c.from_residual-in_err-line.result c.from_residual-in_err-line.ensures.1 in
    rw (p.1) (λ one. absurd (omega (arith, one, ap status_of p.2)))
