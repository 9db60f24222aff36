-- In BCD two characters share a byte, and an odd one has its own.
use Rattle.std.proofs.Common.{rules, ◌≡◌, ◌+◌, ◌/◌}
use Rattle.iso_parts.specs.Reading.{body_size}
use Rattle.iso_parts.proofs.encoding.Coding.body_size.Goals as goal

pub returns-then-eq-clause-size : goal.returns-then-eq-clause-size
returns-then-eq-clause-size c = let size : (c.args.n + 1) / 2 ≡ body_size c.args.self c.args.n = search rules in size
