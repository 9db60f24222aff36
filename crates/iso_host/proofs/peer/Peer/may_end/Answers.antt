use Rattle.iso_host.proofs.PeerLemmas.{between, head_few}
use Rattle.iso_host.proofs.peer.Peer.may_end.Goals as goal

pub head_len-requires : goal.head_len-requires
head_len-requires c = head_few c.self.inside.header c.self.inside.begun c.self.inside.gathering.part c.self.invariant.2

pub returns : goal.returns
returns c = rw (← c.self.view_is) (between c.frames.ensures c.self.inside.header c.self.inside.begun c.self.inside.gathering.part c.head_len.result c.self.invariant.2 c.head_len.ensures)
