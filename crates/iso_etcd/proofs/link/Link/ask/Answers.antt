-- A loss while bytes went out isn't told as a request that was never sent.
use Rattle.std.proofs.Common.{rules}
use Rattle.iso_etcd.proofs.link.Link.ask.Goals as goal

pub returns-in-Err-Lost : goal.returns-in-Err-Lost
returns-in-Err-Lost c = search rules
