use Rattle.std.proofs.Common.{length, arith}
use Rattle.iso_wire.proofs.Decimals.{below_most}
use Rattle.iso_wire.proofs.decimal.number_in.Goals as goal

pub returns-clause-below : goal.returns-clause-below
returns-clause-below c = below_most c.number_if_digits.result (length c.args.text.now) c.args.most (omega arith) c.number_if_digits.ensures.below
