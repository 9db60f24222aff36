-- A fault that isn't of the length lies behind it.
use Rattle.std.proofs.Common.{◌≡◌, rules}
use Rattle.iso_wire.specs.Reading.{fault_place}
use Rattle.iso_wire.proofs.unpacking.fault_place.Goals as goal

pub returns-in_default : goal.returns-in_default
returns-in_default c =
    let front : c.args.front ≡ fault_place c.args.fault c.args.front = search rules in
    front
