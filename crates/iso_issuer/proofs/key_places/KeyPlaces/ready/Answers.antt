use Rattle.std.proofs.Common.{◌≤◌, length, arith}
use Rattle.std.specs.Prelude.{Some, ℕ}
use Rattle.iso_issuer.proofs.Placed.{told-anyway, unchecked}
use Rattle.iso_issuer.proofs.key_places.KeyPlaces.ready.Goals as goal

pub returns-clause-told : goal.returns-clause-told
returns-clause-told c = λ tells new.
    let n : ℕ = length c.args.orders.now in
    let past : length c.args.orders.now ≤ n = omega arith in
    told-anyway c.args.self.now.slots.items c.args.self.now.others c.insert.new.self c.args.orders.now c.args.key.now (Some n) tells new
    (unchecked c.args.orders.now n c.args.key.now past) c.in_ok-insert.ensures.updates.0
