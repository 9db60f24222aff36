-- Who is active stands at the name with `/active` behind it.
use Rattle.iso_etcd.proofs.key.active_key.Goals as goal

pub returns : goal.returns
returns c = c.key_of.ensures
