-- A pair with a key is the one that is meant where both keys have the same bytes.
use Rattle.std.proofs.Common.{rules}
use Rattle.iso_etcd.proofs.answer.has_key.Goals as goal

pub returns-in-Some : goal.returns-in-Some
returns-in-Some c = search rules
