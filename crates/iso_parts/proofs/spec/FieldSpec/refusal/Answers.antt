-- A value of a good length and class with no pad at its padded end fits.
use Rattle.std.proofs.Common.{rules}
use Rattle.iso_parts.proofs.spec.FieldSpec.refusal.Goals as goal

pub returns : goal.returns
returns c = let clear = c.if-stands_at_end.false in search rules
