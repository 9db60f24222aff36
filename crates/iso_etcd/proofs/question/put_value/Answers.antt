-- The object of these leaves stands under the name of a put.
use Rattle.iso_etcd.proofs.question.put_value.Goals as goal

pub returns : goal.returns
returns c = c.nested.ensures
