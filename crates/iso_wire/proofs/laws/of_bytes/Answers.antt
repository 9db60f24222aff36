use Rattle.std.proofs.Common.{arith}
use Rattle.iso_wire.proofs.PlainLaws.{bytes-elements_of}
use Rattle.iso_wire.proofs.laws.of_bytes.Goals as goal

pub returns : goal.returns
returns c = λ ns ends. bytes-elements_of ns 0 ends c.args.values.now (λ i. omega (arith, c.type_inv.values i))
