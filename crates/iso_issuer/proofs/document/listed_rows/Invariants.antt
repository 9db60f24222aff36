use Rattle.std.proofs.Common.{◌≡◌, ◌++◌, drop, option_map}
use Rattle.serde_json.specs.View.{items_view}
use Rattle.iso_issuer.specs.Document.{listed_rows}
use Rattle.iso_issuer.proofs.document.listed_rows.Given as goal

-- the rows so far, and then those of the rest
abbrev pub invariant-loop-value : goal.invariant-loop-value
invariant-loop-value l = listed_rows (items_view l.values) ≡ option_map (λ rest. l.rows.items ++ rest) (listed_rows (items_view (drop l.value-index l.values)))
