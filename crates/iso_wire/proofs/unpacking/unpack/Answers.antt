use Rattle.std.proofs.Common.{arith}
use Rattle.iso_wire.proofs.Unpacked.{is_unpacked}
use Rattle.iso_wire.proofs.unpacking.unpack.Goals as goal

pub returns : goal.returns
returns c = is_unpacked c.reads_spellings.ensures.exact c.reads_spellings.ensures.stays c.stops.ensures.exact c.args.table.now c.args.bytes.now c.message_of.result c.message_of.ensures.good (λ i. omega (arith, c.type_inv.bytes i)) c.message_of.ensures.exact
