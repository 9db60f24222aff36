use Rattle.std.proofs.Common.{subst}
use Rattle.iso_issuer.specs.Books.{Books}
use Rattle.iso_durable.specs.World.{IsStart}
use Rattle.iso_peers.proofs.InStep.{stays_in_step, orders_come}
use Rattle.iso_peers.proofs.durable_host.DurableHost.take_all.Goals as goal

pub returns-then-self-clause-comes : goal.returns-then-self-clause-comes
returns-then-self-clause-comes g c =
    let start : IsStart c.args.self.now.host.limit c.args.self.now.host.orders =
    subst (λ (b : Books). IsStart b.limit b.orders) c.issuer.ensures (record { once = c.len-entered.ensures.distinct; few = c.len-entered.ensures.few }) in
    orders_come g.L.Log.is_ready g.L.Log.synced g.L.Log.pending c.args.self.now c.args.self.now.host c.orders_enter.ensures start

pub returns-clause-step : goal.returns-clause-step
returns-clause-step g c =
    let start : IsStart c.args.self.now.host.limit c.args.self.now.host.orders =
    subst (λ (b : Books). IsStart b.limit b.orders) c.issuer.ensures (record { once = c.len-entered.ensures.distinct; few = c.len-entered.ensures.few }) in
    stays_in_step g.L.Log.is_ready g.L.Log.synced g.L.Log.pending c.args.self.now c.take_pieces.new.host c.orders_enter.ensures start c.take_pieces.ensures.enters

pub returns-clause-comes : goal.returns-clause-comes
returns-clause-comes g c =
    let start : IsStart c.args.self.now.host.limit c.args.self.now.host.orders =
    subst (λ (b : Books). IsStart b.limit b.orders) c.issuer.ensures (record { once = c.len-entered.ensures.distinct; few = c.len-entered.ensures.few }) in
    orders_come g.L.Log.is_ready g.L.Log.synced g.L.Log.pending c.args.self.now c.take_pieces.new.host c.orders_enter.ensures start
