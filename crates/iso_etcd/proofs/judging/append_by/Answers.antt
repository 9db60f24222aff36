use Rattle.std.proofs.Common.{refl}
use Rattle.iso_etcd.proofs.judging.append_by.Goals as goal

pub returns-in-Ok-None : goal.returns-in-Ok-None
returns-in-Ok-None c =
    let read = rw c.in-Ok-None.is at c.read_put.ensures.none in
    let none = rw c.in-Ok-None.field-0-is at read in
    none refl
