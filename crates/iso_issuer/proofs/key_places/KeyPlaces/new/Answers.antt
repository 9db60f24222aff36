use Rattle.iso_issuer.proofs.Placed.{told-nothing}
use Rattle.iso_issuer.proofs.key_places.KeyPlaces.new.Goals as goal

pub returns : goal.returns
returns c = told-nothing c.new.result.items c.new-2.result
