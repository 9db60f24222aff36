use Rattle.std.proofs.Common.{◌≡◌, length, rules}
use Rattle.iso_wire.proofs.unpacker.UnpackerDebug.fmt.Goals as goal

pub returns : goal.returns
returns g c =
    let held : c.len.result ≡ length c.self.inside.taken.items = search rules in
    rw (← c.self.view_is, ← held) (record { writes = c.write_unpacker.ensures })
