-- Two digits are the code of the number that they write, and no other text is one.
use Rattle.std.proofs.Common.{rules}
use Rattle.iso_script.proofs.code.Code.from_digits.Goals as goal

pub returns : goal.returns
returns c = search rules
