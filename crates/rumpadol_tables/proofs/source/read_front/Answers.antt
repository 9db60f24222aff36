use Rattle.rumpadol_tables.proofs.KnownLemmas.{front_known}
use Rattle.rumpadol_tables.proofs.source.read_front.Goals as goal

pub returns-in-Ok : goal.returns-in-Ok
returns-in-Ok g c =
    front_known _ _ _ _ c.take.ensures.limit c.new-bytes.ensures.items (rw c.take.ensures.inner at c.in-Ok.ensures.bytes)
