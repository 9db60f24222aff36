use Rattle.std.proofs.Common.{refl}
use Rattle.std.specs.Prelude.{None}
use Rattle.iso_issuer.proofs.Placed.{told-anyway}
use Rattle.iso_issuer.proofs.key_places.KeyPlaces.withdraw.Goals as goal

pub returns : goal.returns
returns c = λ orders tells new.
    told-anyway c.args.self.now.slots.items c.args.self.now.others c.remove.new.self orders c.args.key.now None tells new refl c.remove.ensures.updates.0
