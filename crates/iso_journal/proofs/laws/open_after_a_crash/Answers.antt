use Rattle.std.proofs.Common.{◌∙◌, ◌++◌, take, refl}
use Rattle.iso_log.specs.Slots.{records_of}
use Rattle.iso_journal.specs.Orders.{journal_orders, synced_orders, pending_orders}
use Rattle.iso_journal.specs.Fronts.{ready_leaves}
use Rattle.iso_journal.proofs.Replayed.{same_state}
use Rattle.iso_journal.proofs.laws.open_after_a_crash.Goals as goal

pub returns-in-Ok : goal.returns-in-Ok
returns-in-Ok g c = record {
  crashed = λ clean is left only accounts limit.
      let e = c.in-Ok.ensures in
      let old = c.args.before.now in
      let host = c.in-Ok.host in
      let seen = g.D.Disk.seen in
      let found = ready_leaves old.log.log is.ready (journal_orders (records_of (seen c.args.disk))) (seen c.args.disk, left, refl) in (
        found.0,
        same_state host.issuer.accounts old.issuer.accounts host.issuer.limit old.issuer.limit host.issuer.orders (synced_orders seen host.log.log) (pending_orders seen host.log.log)
            (synced_orders seen old.log.log ++ take found.0 (pending_orders seen old.log.log))
            (e.accounts ∙ accounts) (e.limit ∙ limit) (e.consistent clean only).same (e.none clean only) (e.held clean only ∙ found.1),
      );
}
