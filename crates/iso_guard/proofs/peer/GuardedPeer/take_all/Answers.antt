use Rattle.std.proofs.Common.{subst, sym}
use Rattle.iso_issuer.specs.Books.{Books}
use Rattle.iso_peers.specs.Host.{IsInStep}
use Rattle.iso_guard.proofs.Allowed.{enter_by_orders}
use Rattle.iso_guard.proofs.peer.GuardedPeer.take_all.Goals as goal

pub returns-clause-step : goal.returns-clause-step
returns-clause-step g c = λ is.
    let host = c.args.host.now in
    let enters = enter_by_orders _ _ host.host c.take_held.new.host c.take_held.ensures.allowed in
    subst (λ (b : Books). IsInStep g.L.Log.is_ready g.L.Log.synced g.L.Log.pending (record host { host = b })) (sym enters.1) (c.stays_in_step.ensures enters.0 is)
