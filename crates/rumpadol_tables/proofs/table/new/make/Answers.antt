use Rattle.std.proofs.Common.{List, ℕ, Bor, map, subst, ◌∙◌}
use Rattle.std.specs.Io.KnownBytes.{Appends}
use Rattle.iso_table.specs.Layout.{Layout}
use Rattle.rumpadol_tables.specs.Tables.{IsChanged, WritesMadeTable}
use Rattle.rumpadol_tables.proofs.KnownLemmas.{where_ok}
use Rattle.rumpadol_tables.proofs.table.new.make.Goals as goal

pub returns : goal.returns
returns g c =
    let from : Layout = c.in_ok-from.from in
    let t : Layout = c.in_ok-table.table in
    let drops : List ℕ = c.args.words.now.drops.items in
    let texts : List (Bor (List ℕ)) → List (List ℕ) = λ rows. map (λ (text : Bor (List ℕ)). text.now) rows in
    let rows : List (Bor (List ℕ)) = c.args.words.now.rows.items in
    let old = g.O.Write.contents c.args.output.now in
    let new = g.O.Write.contents c.write_output.new.output in
    let of_drops : IsChanged from drops (texts c.deref-2.result.now) t =
    subst (λ (ns : List ℕ). IsChanged from ns (texts c.deref-2.result.now) t) c.deref.ensures.value c.in_ok-table.ensures in
    let changed : IsChanged from drops (texts rows) t =
    subst (λ (rs : List (Bor (List ℕ))). IsChanged from drops (texts rs) t) c.deref-2.ensures.value of_drops in
    where_ok c.write_output.result (Appends old new c.deref-3.result.now)
    (WritesMadeTable (record { file = g.S.Source.file c.args.source.now; input = g.I.Read.remaining c.args.input.now }) c.args.words.now.from.now drops (texts rows) (record { old = old; new = new }))
    (λ written. (from, t, c.in_ok-from.ensures.ok, changed, subst (λ (l : List ℕ). Appends old new l) (c.deref-3.ensures.value ∙ c.in_ok-text.ensures) written))
    c.write_output.ensures.written
