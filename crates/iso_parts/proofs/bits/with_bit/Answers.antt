use Rattle.std.proofs.Common.{◌^◌, ◌*◌, ◌%◌, w64, arith}
use Rattle.std.proofs.lemmas.Nat.{or_lt}
use Rattle.std.proofs.lemmas.Nat.Bits.{bit_at_set_same, bit_at_set_other}
use Rattle.std.proofs.Math.Pow.{pow-lt}
use Rattle.iso_parts.proofs.bits.with_bit.Goals as goal

pub returns-clause-below : goal.returns-clause-below
returns-clause-below c = λ j lt word_lt. or_lt j c.args.word (1 * 2 ^ c.args.k % 2 ^ 64) word_lt (let p = pow-lt {i = c.args.k} {j = j} lt in omega (arith, p))

pub returns-clause-added : goal.returns-clause-added
returns-clause-added c = bit_at_set_same w64 c.args.word c.args.k c.requires

pub returns-clause-others : goal.returns-clause-others
returns-clause-others c = λ i other. bit_at_set_other w64 c.args.word c.args.k c.requires i other
