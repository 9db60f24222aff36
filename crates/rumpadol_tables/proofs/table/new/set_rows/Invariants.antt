use Rattle.std.proofs.Common.{◌≡◌, drop, map}
use Rattle.iso_table.specs.Accepted.{contents}
use Rattle.rumpadol_tables.specs.Tables.{with_texts}
use Rattle.rumpadol_tables.proofs.table.new.set_rows.Given as goal

-- the draft so far with the rows of the other texts is what is asked
abbrev pub invariant-loop-text : goal.invariant-loop-text
invariant-loop-text l =
    with_texts (contents l.draft) (map (λ text. text.now) (drop l.text-index l.texts)) ≡ with_texts (contents l.fn.draft) (map (λ text. text.now) l.texts)
