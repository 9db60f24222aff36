-- In BCD values of the classes N and Z can be written.
use Rattle.std.proofs.Common.{rules, ◌≡◌, ◌⊎◌}
use Rattle.iso_parts.specs.declared.class.CharClass.TheVariants.{N, Z}
use Rattle.iso_parts.proofs.encoding.Coding.takes.Goals as goal

pub returns-in-N : goal.returns-in-N
returns-in-N c = let is : (c.args.class ≡ N) ⊎ (c.args.class ≡ Z) = c.in-N.is in search rules
