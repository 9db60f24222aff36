use Rattle.std.proofs.Common.{◌∙◌, sym, ap}
use Rattle.iso_relay.specs.declared.entry.Entry.{Entry}
use Rattle.iso_relay.specs.Entries.{key_of}
use Rattle.iso_relay.proofs.Decided.{asked-table, asked-others}
use Rattle.iso_relay.proofs.pending.Pending.ask.Goals as goal

pub invariant_of-self : goal.invariant_of-self
invariant_of-self c =
    asked-table c.put.result c.self.inside.count c.first_entry.result c.self.inside.entries.items c.put.new.entries.items
    c.put.ensures.put c.put.ensures.unchanged c.self.invariant

pub returns-clause-others : goal.returns-clause-others
returns-clause-others c =
    rw (← c.self.view_is)
    (asked-others c.put.result (key_of c.args.route.now) c.in-Some.key c.first_entry.result c.self.inside.entries.items
    c.put.new.entries.items (sym c.key_of.ensures ∙ c.in-Some.is) (ap (λ (e : Entry). e.key) c.first_entry.ensures)
    c.put.ensures.put)
