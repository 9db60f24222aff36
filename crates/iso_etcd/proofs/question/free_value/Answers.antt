-- The object of these leaves says that nothing stands at the key.
use Rattle.iso_etcd.proofs.question.free_value.Goals as goal

pub returns : goal.returns
returns c = c.object_of.ensures
