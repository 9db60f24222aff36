use Rattle.std.proofs.Common.{refl, subst}
use Rattle.iso_issuer.specs.Books.{Books}
use Rattle.iso_issuer.specs.Laws.{books_after}
use Rattle.iso_durable.specs.World.{IsStart}
use Rattle.iso_peers.proofs.InStep.{stays_in_step}
use Rattle.iso_peers.proofs.laws.stays_in_step.Goals as goal

pub returns : goal.returns
returns g c = λ orders.
    let old = c.args.host.now in
    let start : IsStart old.host.limit old.host.orders =
    subst (λ (b : Books). IsStart b.limit b.orders) c.issuer.ensures (record { once = c.len-entered.ensures.distinct; few = c.len-entered.ensures.few }) in
    stays_in_step g.L.Log.is_ready g.L.Log.synced g.L.Log.pending old (books_after old.host orders) c.orders_enter.ensures start (orders, refl)
