use Rattle.std.proofs.Common.{◌≡◌, ◌++◌, length}
use Rattle.iso_shared.specs.Batch.{rows_bytes}
use Rattle.rumpadol_batches.specs.Numbered.{counted}
use Rattle.rumpadol_batches.proofs.records.add_rows.Given as goal

abbrev pub invariant-loop-rest : goal.invariant-loop-rest
invariant-loop-rest l = record {
  counted : counted l.count l.rest ≡ counted l.orders l.rows;
  added : l.records.items ++ rows_bytes l.rest ≡ l.fn.records.items ++ rows_bytes l.rows;
}

abbrev pub decreases-loop-rest : goal.decreases-loop-rest
decreases-loop-rest l = length l.rest
