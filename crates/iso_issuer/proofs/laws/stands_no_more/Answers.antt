use Rattle.iso_issuer.proofs.Standing.{falls-for-good}
use Rattle.iso_issuer.proofs.laws.stands_no_more.Goals as goal

pub returns : goal.returns
returns c = falls-for-good
