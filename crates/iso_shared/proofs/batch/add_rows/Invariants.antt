use Rattle.std.proofs.Common.{◌≡◌, ◌++◌, take, true}
use Rattle.std.specs.List.{list_all}
use Rattle.iso_record.specs.Row.{is_row}
use Rattle.iso_shared.specs.Batch.{rows_bytes}
use Rattle.iso_shared.proofs.batch.add_rows.Given as goal

abbrev pub invariant-loop-row : goal.invariant-loop-row
invariant-loop-row l = record {
  bytes : l.out.items ≡ l.fn.out.items ++ rows_bytes (take l.row-index l.rows);
  rows : list_all is_row (take l.row-index l.rows) ≡ true;
}
