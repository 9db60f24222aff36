-- What the journal is stands at the name with `/heading` behind it.
use Rattle.iso_etcd.proofs.key.heading_key.Goals as goal

pub returns : goal.returns
returns c = c.key_of.ensures
