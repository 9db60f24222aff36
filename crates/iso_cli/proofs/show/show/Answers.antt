use Rattle.std.proofs.Common.{List, ℕ, inl, inr, subst}
use Rattle.std.proofs.lemmas.Result.{err_from_is_err_and}
use Rattle.std.specs.Io.KnownBytes.{Appends}
use Rattle.iso_table.specs.Layout.{Layout}
use Rattle.iso_cli.specs.Tables.{IsNamed}
use Rattle.iso_cli.specs.Show.{Shows}
use Rattle.iso_cli.proofs.RefusedLemmas.{handed_ok, handed_turns, handed_words, write_stops, write_turns, write_words}
use Rattle.iso_cli.proofs.StreamingLemmas.{known_all, where_ok}
use Rattle.iso_cli.proofs.show.show.Goals as goal

pub returns-clause-lines : goal.returns-clause-lines
returns-clause-lines g c =
    let file = g.S.Source.file c.args.source.now in
    let table : Layout = c.in_ok-table.table in
    let bytes : List ℕ = c.in_ok-bytes.bytes.items in
    let lines : List ℕ = c.in_ok-lines.lines.items in
    let old = g.O.Outlet.contents c.args.output.now in
    let new = g.O.Outlet.contents c.write_output.new.output in
    let shows : Shows table c.args.clear bytes lines = subst (λ (l : List ℕ). Shows table c.args.clear l lines) c.deref.ensures.value c.in_ok-lines.ensures.lines in
    where_ok c.write_output.result (Appends old new c.deref-2.result.now) _
    (λ written. known_all (g.I.Inlet.remaining c.args.input.now) bytes
    (λ all. (t : Layout) × (ls : List ℕ) × IsNamed file c.args.table.now t × Shows t c.args.clear all ls × Appends old new ls)
    c.in_ok-bytes.ensures.bytes
    (table, lines, c.in_ok-table.ensures.ok, shows, subst (λ (l : List ℕ). Appends old new l) c.deref-2.ensures.value written))
    c.write_output.ensures.written

pub returns-in_err-table-clause-stop : goal.returns-in_err-table-clause-stop
returns-in_err-table-clause-stop g c =
    let p = err_from_is_err_and c.from_residual.result c.from_residual.ensures.1 in
    rw (p.1, p.2) (λ one. inl (c.in_err-table.ensures.stop one))

pub returns-in_err-bytes-clause-stop : goal.returns-in_err-bytes-clause-stop
returns-in_err-bytes-clause-stop g c =
    let p = err_from_is_err_and c.from_residual-in_err-bytes.result c.from_residual-in_err-bytes.ensures.1 in
    rw (p.1, p.2) (λ one. inr (c.in_ok-table.table, c.in_ok-table.ensures.ok, inl (c.in_err-bytes.ensures.stop one)))

pub returns-clause-stop : goal.returns-clause-stop
returns-clause-stop g c = write_stops c.write_output.result _ c.write_output.ensures.stop

pub returns-in_err-table-clause-words : goal.returns-in_err-table-clause-words
returns-in_err-table-clause-words g c = handed_words _ _ (err_from_is_err_and c.from_residual.result c.from_residual.ensures.1) c.in_err-table.ensures.words

pub returns-in_err-table-clause-turns : goal.returns-in_err-table-clause-turns
returns-in_err-table-clause-turns g c = handed_turns _ _ (err_from_is_err_and c.from_residual.result c.from_residual.ensures.1) c.in_err-table.ensures.turns

pub returns-in_err-table-clause-lines : goal.returns-in_err-table-clause-lines
returns-in_err-table-clause-lines g c = handed_ok _ _ (err_from_is_err_and c.from_residual.result c.from_residual.ensures.1) _

pub returns-in_err-bytes-clause-words : goal.returns-in_err-bytes-clause-words
returns-in_err-bytes-clause-words g c = handed_words _ _ (err_from_is_err_and c.from_residual-in_err-bytes.result c.from_residual-in_err-bytes.ensures.1) c.in_err-bytes.ensures.words

pub returns-in_err-bytes-clause-turns : goal.returns-in_err-bytes-clause-turns
returns-in_err-bytes-clause-turns g c = handed_turns _ _ (err_from_is_err_and c.from_residual-in_err-bytes.result c.from_residual-in_err-bytes.ensures.1) c.in_err-bytes.ensures.turns

pub returns-in_err-bytes-clause-lines : goal.returns-in_err-bytes-clause-lines
returns-in_err-bytes-clause-lines g c = handed_ok _ _ (err_from_is_err_and c.from_residual-in_err-bytes.result c.from_residual-in_err-bytes.ensures.1) _

pub returns-in_err-lines-clause-words : goal.returns-in_err-lines-clause-words
returns-in_err-lines-clause-words g c = handed_words _ _ (err_from_is_err_and c.from_residual-in_err-lines.result c.from_residual-in_err-lines.ensures.1) c.in_err-lines.ensures.words

pub returns-in_err-lines-clause-turns : goal.returns-in_err-lines-clause-turns
returns-in_err-lines-clause-turns g c = handed_turns _ _ (err_from_is_err_and c.from_residual-in_err-lines.result c.from_residual-in_err-lines.ensures.1) c.in_err-lines.ensures.turns

pub returns-in_err-lines-clause-lines : goal.returns-in_err-lines-clause-lines
returns-in_err-lines-clause-lines g c = handed_ok _ _ (err_from_is_err_and c.from_residual-in_err-lines.result c.from_residual-in_err-lines.ensures.1) _

pub returns-clause-words : goal.returns-clause-words
returns-clause-words g c = write_words c.write_output.result c.write_output.ensures.stop

pub returns-clause-turns : goal.returns-clause-turns
returns-clause-turns g c = write_turns c.write_output.result c.write_output.ensures.stop
