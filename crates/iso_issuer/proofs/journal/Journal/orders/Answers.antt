use Rattle.std.proofs.Common.{sym, ◌∙◌}
use Rattle.iso_issuer.proofs.Stored.{orders-entries}
use Rattle.iso_issuer.proofs.journal.Journal.orders.Goals as goal

pub returns : goal.returns
returns c =
    let i = c.self.inside in
    rw (← c.self.view_is) (c.deref.ensures.value ∙ sym (orders-entries 0 i.orders.items i.codes.items i.shown c.self.invariant.0.coded))
