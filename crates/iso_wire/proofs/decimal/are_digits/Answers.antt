-- A text of a length between both bounds passes where each byte is a digit.
use Rattle.std.proofs.Common.{rules}
use Rattle.iso_wire.proofs.decimal.are_digits.Goals as goal

pub returns-then-text-most : goal.returns-then-text-most
returns-then-text-most c = search rules
