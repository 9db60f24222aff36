-- So far the answer is whether all bytes were hexadecimal digits.
use Rattle.std.proofs.Common.{arith}
use Rattle.std.proofs.lemmas.Grind.{common_steps}
use Rattle.iso_parts.proofs.encoding.are_hex_digits.Goals as goal

pub loop-b-preserved : goal.loop-b-preserved
loop-b-preserved = λ (c : goal.Joined-matches-5). grind (arith, common_steps)
