-- Fewer bytes than a message type takes are told as missing.
use Rattle.std.proofs.Common.{◌≡◌, ap, rules}
use Rattle.iso_wire.specs.declared.fault.UnpackCause.TheVariants.{Short}
use Rattle.iso_wire.specs.declared.fault.UnpackFault.{UnpackFault}
use Rattle.iso_wire.proofs.front.type_of.Goals as goal

pub returns-then-bytes-size-clause-exact : goal.returns-then-bytes-size-clause-exact
returns-then-bytes-size-clause-exact c =
    let short : c.stop.result.cause ≡ Short = ap (λ (e : UnpackFault). e.cause) c.stop.ensures in
    search rules
