-- From 2 to 128 each number but 65 is one of an element.
use Rattle.std.proofs.Common.{rules}
use Rattle.iso_parts.proofs.numbers.is_element.Goals as goal

pub returns-then-n-le128 : goal.returns-then-n-le128
returns-then-n-le128 c = search rules
