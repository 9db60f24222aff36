-- The text is the JSON of a transaction that puts the value where nothing stands.
use Rattle.std.proofs.Common.{rules}
use Rattle.iso_etcd.proofs.question.put_text.Goals as goal

pub returns : goal.returns
returns c = search rules
