use Rattle.std.proofs.Common.{◌≡◌, take}
use Rattle.serde_json.specs.View.{items_view}
use Rattle.iso_table.specs.Document.{rows_data}
use Rattle.iso_table.proofs.writing.row_values.Given as goal

-- the values so far are the rows so far
abbrev pub invariant-loop-number : goal.invariant-loop-number
invariant-loop-number l = items_view l.values.items ≡ rows_data 0 (take l.number l.places)
