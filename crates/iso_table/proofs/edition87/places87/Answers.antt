use Rattle.std.proofs.Common.{◌∙◌, arith}
use Rattle.std.proofs.lemmas.List.{length-set}
use Rattle.iso_table.proofs.EditionLemmas.{one_more, all_rows}
use Rattle.iso_table.proofs.edition87.places87.Goals as goal

pub loop-number-preserved : goal.loop-number-preserved
loop-number-preserved c =
    let was = c.loop-number.invariant in
    rw c.row87.ensures record {
      size = length-set _ _ _ ∙ was.size;
      rows = one_more c.args.digits c.loop-number.places c.loop-number.number c.loop-number-test.true was.size was.rows;
    }

pub returns-clause-rows : goal.returns-clause-rows
returns-clause-rows c =
    let was = c.loop-number.invariant in
    all_rows c.args.digits c.loop-number.places was.size (λ n low. was.rows n (omega arith))
