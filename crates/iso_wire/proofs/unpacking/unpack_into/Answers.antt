use Rattle.std.proofs.Common.{arith}
use Rattle.iso_wire.specs.Unpacking.{read_into}
use Rattle.iso_wire.proofs.Unpacked.{is_unpacked}
use Rattle.iso_wire.proofs.unpacking.unpack_into.Goals as goal

pub returns-clause-unpacked : goal.returns-clause-unpacked
returns-clause-unpacked c =
    is_unpacked c.reads_spellings.ensures.exact c.reads_spellings.ensures.stays c.stops.ensures.exact c.args.table.now c.args.bytes.now
    (read_into c.read.new.self c.read.result) c.read.ensures.good (λ i. omega (arith, c.type_inv.bytes i)) c.read.ensures.exact
