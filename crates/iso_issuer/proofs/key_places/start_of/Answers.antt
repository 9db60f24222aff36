use Rattle.iso_issuer.specs.Places.{start_of}
use Rattle.iso_issuer.proofs.key_places.start_of.Goals as goal

pub returns-clause-value : goal.returns-clause-value
unfolding start_of
returns-clause-value c =
    let d = c.digest.ensures in
    let m = c.min.ensures in
    cc
