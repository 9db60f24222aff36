use Rattle.std.proofs.Common.{ap, ◌%◌}
use Rattle.iso_issuer.specs.Places.{tag_of}
use Rattle.iso_issuer.proofs.key_places.tag_of.Goals as goal

pub returns : goal.returns
unfolding tag_of
returns c = ap (λ n. n % 4294967296) c.digest.ensures
