-- A number is covered where it is long enough and its first digits lie in the range.
use Rattle.std.proofs.Common.{rules}
use Rattle.iso_front.proofs.prefixes.Prefixes.covers.Goals as goal

pub returns-then-len-self : goal.returns-then-len-self
returns-then-len-self c = search rules

pub returns-then-self-first : goal.returns-then-self-first
returns-then-self-first c = search rules
