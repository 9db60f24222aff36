use Rattle.iso_cli.proofs.SourceLemmas.{front_known}
use Rattle.iso_cli.proofs.source.read_front.Goals as goal

pub returns-in-Ok : goal.returns-in-Ok
returns-in-Ok g c =
    front_known _ _ _ _ c.take.ensures.limit c.new-bytes.ensures.items (rw c.take.ensures.inner at c.in-Ok.ensures.bytes)
