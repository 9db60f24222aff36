use Rattle.std.proofs.Common.{◌≡◌, ◌++◌, drop, option_map}
use Rattle.serde_json.specs.View.{items_view}
use Rattle.iso_table.specs.Document.{rows_in}
use Rattle.iso_table.proofs.reading.rows_in.Given as goal

-- the rows so far, and then those of the rest
abbrev pub invariant-loop-value : goal.invariant-loop-value
invariant-loop-value l = rows_in l.profile (items_view l.values) ≡ option_map (λ rest. l.rows.items ++ rest) (rows_in l.profile (items_view (drop l.value-index l.values)))
