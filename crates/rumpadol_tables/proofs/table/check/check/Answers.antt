use Rattle.std.proofs.Common.{List, ℕ, subst, ◌∙◌}
use Rattle.std.specs.Io.KnownBytes.{Appends}
use Rattle.iso_table.specs.Layout.{Layout}
use Rattle.rumpadol_tables.specs.Tables.{TellsGoodTable}
use Rattle.rumpadol_tables.proofs.KnownLemmas.{where_ok}
use Rattle.rumpadol_tables.proofs.table.check.check.Goals as goal

pub returns-clause-good : goal.returns-clause-good
returns-clause-good g c =
    let table : Layout = c.in_ok-table.table in
    let old = g.O.Write.contents c.args.output.now in
    let new = g.O.Write.contents c.write_output.new.output in
    where_ok c.write_output.result (Appends old new c.as_bytes.result.now) (TellsGoodTable (record { file = g.S.Source.file c.args.source.now; input = g.I.Read.remaining c.args.input.now }) c.args.word.now (record { old = old; new = new }))
    (λ written. (table, c.in_ok-table.ensures.ok, subst (λ (l : List ℕ). Appends old new l) (c.as_bytes.ensures.value ∙ c.in_ok-line.ensures) written))
    c.write_output.ensures.written
