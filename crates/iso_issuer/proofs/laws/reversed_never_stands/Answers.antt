use Rattle.iso_issuer.proofs.Standing.{reversed-for-good}
use Rattle.iso_issuer.proofs.laws.reversed_never_stands.Goals as goal

pub returns : goal.returns
returns c = reversed-for-good
