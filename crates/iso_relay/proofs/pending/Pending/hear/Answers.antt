use Rattle.std.proofs.Common.{◌∙◌, sym}
use Rattle.iso_relay.proofs.Tables.{table-answered, answered-others, once}
use Rattle.iso_relay.proofs.Sound.{said-by-all}
use Rattle.iso_relay.proofs.pending.Pending.hear.Goals as goal

pub invariant_of-self : goal.invariant_of-self
invariant_of-self c =
    rw c.hear.ensures.left
    (table-answered c.self.inside.count c.args.shard c.args.key.now c.args.code c.self.inside.entries.items c.self.invariant)

pub returns-clause-said : goal.returns-clause-said
returns-clause-said c =
    rw (← c.self.view_is)
    (λ told events is.
    said-by-all c.self.inside.count c.args.shard c.args.key.now c.args.code events c.self.inside.entries.items
    c.self.invariant.few is (sym c.hear.ensures.decided ∙ told))

pub returns-clause-once : goal.returns-clause-once
returns-clause-once c = λ told.
    rw c.hear.ensures.left
    (once c.args.shard c.args.key.now c.args.code c.self.inside.entries.items c.self.invariant.apart
    (sym c.hear.ensures.decided ∙ told))

pub returns-clause-others : goal.returns-clause-others
returns-clause-others c =
    rw (← c.self.view_is)
    (λ other apart.
    rw c.hear.ensures.left
    (answered-others c.args.shard c.args.key.now other c.args.code c.self.inside.entries.items apart))
