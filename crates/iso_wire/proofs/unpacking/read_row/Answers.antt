use Rattle.std.proofs.Common.{arith}
use Rattle.iso_wire.proofs.unpacking.read_row.Goals as goal

pub returns-in-Ok-Some-clause-room : goal.returns-in-Ok-Some-clause-room
returns-in-Ok-Some-clause-room c =
    let taken = rw c.in-Ok-Some.field-0-is at c.in-Ok-Some.ensures.room in
    omega (arith, taken, c.split_at.ensures.back_len, c.requires.within)
