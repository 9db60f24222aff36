-- The longest field of a row is its length and the body of its most characters.
use Rattle.std.proofs.Common.{rules, ℕ}
use Rattle.iso_table.proofs.sizes.field_bytes.Goals as goal

pub returns-clause-exact : goal.returns-clause-exact
returns-clause-exact c = let front : ℕ = c.prefix_size.result in search rules
