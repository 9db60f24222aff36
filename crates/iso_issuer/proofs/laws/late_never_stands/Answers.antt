use Rattle.iso_issuer.proofs.Standing.{reversed-for-good}
use Rattle.iso_issuer.proofs.laws.late_never_stands.Goals as goal

pub returns : goal.returns
returns c = λ accounts orders key reversed new. reversed-for-good accounts orders key reversed
