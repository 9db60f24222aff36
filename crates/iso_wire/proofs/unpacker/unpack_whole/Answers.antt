use Rattle.std.proofs.Common.{arith}
use Rattle.iso_wire.proofs.Unpacked.{is_unpacked}
use Rattle.iso_wire.proofs.unpacker.unpack_whole.Goals as goal

pub returns : goal.returns
returns c = is_unpacked c.reads_spellings.ensures.exact c.reads_spellings.ensures.stays c.stops.ensures.exact c.args.table.now c.args.bytes.now c.unpack_spare.result c.unpack_spare.ensures.good (λ i. omega (arith, c.type_inv.bytes i)) c.unpack_spare.ensures.exact
