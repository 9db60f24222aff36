use Rattle.std.proofs.Common.{◌≡◌, ◌-◌}
use Rattle.iso_shared.specs.Batch.{rows_from}
use Rattle.iso_shared.specs.Read.{rows_before}
use Rattle.iso_shared.proofs.reading.read_rows.Given as goal

abbrev pub invariant-loop-place : goal.invariant-loop-place
invariant-loop-place l =
    rows_before l.rows.items (rows_from (l.count - l.place) l.place l.text) ≡ rows_from (l.count - 1) 1 l.text
