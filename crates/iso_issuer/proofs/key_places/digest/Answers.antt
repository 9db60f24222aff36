use Rattle.iso_issuer.specs.Places.{digest}
use Rattle.iso_issuer.proofs.key_places.digest.Goals as goal

pub returns : goal.returns
unfolding digest
returns c =
    let stan = c.from-stan.ensures in
    let base = c.from-base.ensures in
    cc
