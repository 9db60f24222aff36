use Rattle.iso_issuer.proofs.Kept.{firsts-go-on}
use Rattle.iso_issuer.proofs.laws.firsts_go_on.Goals as goal

pub returns : goal.returns
returns c = firsts-go-on
