-- Each place with a row counts as one.
use Rattle.std.proofs.Common.{rules, ℕ}
use Rattle.iso_table.proofs.table.Table.rows.Goals as goal

pub returns : goal.returns
returns c = let counted : ℕ = c.count.result in search rules
