use Rattle.iso_issuer.proofs.Kept.{firsts-stay}
use Rattle.iso_issuer.proofs.laws.firsts_stay.Goals as goal

pub returns : goal.returns
returns c = firsts-stay
