-- A page has all batches of the answer from its first place on, and tells whether more follow.
use Rattle.std.proofs.Common.{rules}
use Rattle.iso_etcd.proofs.page.page_of.Goals as goal

pub returns-in-Some-clause-found : goal.returns-in-Some-clause-found
returns-in-Some-clause-found c = search rules
