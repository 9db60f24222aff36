use Rattle.std.proofs.Common.{subst}
use Rattle.iso_wire.specs.Unpacker.{Feeding}
use Rattle.iso_wire.specs.Unpacking.{IsUnpacked}
use Rattle.iso_wire.proofs.unpacker.Unpacker.unpack.Goals as goal

pub returns-clause-unpacked : goal.returns-clause-unpacked
returns-clause-unpacked c = subst (λ (x : Feeding). IsUnpacked x.table c.args.bytes.now c.unpack_whole.result) c.self.view_is c.unpack_whole.ensures
