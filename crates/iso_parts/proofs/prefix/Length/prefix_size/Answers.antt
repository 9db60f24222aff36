-- Three digits in BCD take two bytes.
use Rattle.std.proofs.Common.{rules, ◌≡◌}
use Rattle.iso_parts.specs.Reading.{prefix_size}
use Rattle.iso_parts.proofs.prefix.Length.prefix_size.Goals as goal

pub returns-in-LLL-Bcd-clause-size : goal.returns-in-LLL-Bcd-clause-size
returns-in-LLL-Bcd-clause-size c = let size : 2 ≡ prefix_size c.args.self = search rules in size
