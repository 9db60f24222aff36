use Rattle.std.proofs.Common.{◌≡◌, ◌++◌, List, ℕ, ap, codes, subst, ◌∙◌}
use Rattle.std.specs.Prelude.{string_bytes}
use Rattle.std.specs.Io.KnownBytes.{Appends}
use Rattle.iso_table.specs.Layout.{Layout}
use Rattle.rumpadol_tables.specs.Tables.{ListsBuiltIn, list_line}
use Rattle.rumpadol_tables.proofs.KnownLemmas.{where_ok}
use Rattle.rumpadol_tables.proofs.table.list.list.Goals as goal

pub returns : goal.returns
returns g c =
    let a : Layout = c.in_ok-ascii.ascii in
    let b : Layout = c.in_ok-bcd.bcd in
    let old = g.O.Write.contents c.args.output.now in
    let new = g.O.Write.contents c.write_output.new.output in
    let lines : c.as_bytes.result.now ≡ list_line (codes "ascii87") a ++ list_line (codes "bcd87") b =
    c.as_bytes.ensures.value ∙ c.in_ok-push_str.ensures.bytes
    ∙ ap (λ (l : List ℕ). string_bytes c.in_ok-lines.lines ++ l) (c.deref.ensures ∙ c.in_ok-last.ensures)
    ∙ ap (λ (l : List ℕ). l ++ list_line (codes "bcd87") b) c.in_ok-lines.ensures in
    where_ok c.write_output.result (Appends old new c.as_bytes.result.now) (ListsBuiltIn (record { old = old; new = new }))
    (λ written. (a, b, c.in_ok-ascii.ensures, c.in_ok-bcd.ensures, subst (λ (l : List ℕ). Appends old new l) lines written))
    c.write_output.ensures.written
