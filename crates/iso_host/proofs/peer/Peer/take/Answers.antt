use Rattle.iso_host.proofs.peer.Peer.take.Goals.{in-Err, in-Ok}
use Rattle.iso_host.proofs.peer.Peer.take.Goals as goal

pub returns-clause-refused : goal.returns-clause-refused
returns-clause-refused c =
    elim c.match-took.branch [
      | in-Err w ↦ rw (w.result-is, ← c.self.view_is, ← c.host.view_is) w.in-Err.ensures.refused
      | in-Ok w ↦ rw w.result-is tt
    ]
