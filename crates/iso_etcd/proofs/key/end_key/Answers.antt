-- The first key behind all batches is the name with `/batch0` behind it.
use Rattle.iso_etcd.proofs.key.end_key.Goals as goal

pub returns : goal.returns
returns c = c.key_of.ensures
