use Rattle.iso_host.proofs.ShareLemmas.{peer_alone, peers_share}
use Rattle.iso_host.proofs.laws.peers_share.Goals as goal

pub returns-clause-share : goal.returns-clause-share
returns-clause-share c = peers_share c.firsts_go_on.ensures c.frames.ensures _ c.enters_nothing.ensures

pub returns-clause-alone : goal.returns-clause-alone
returns-clause-alone c = peer_alone c.firsts_go_on.ensures c.frames.ensures _ c.enters_nothing.ensures
