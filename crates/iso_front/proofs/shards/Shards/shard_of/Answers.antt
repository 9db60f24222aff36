use Rattle.std.proofs.Common.{◌∙◌}
use Rattle.iso_front.proofs.Belonging.{found-some, only, there-some}
use Rattle.iso_front.proofs.shards.Shards.shard_of.Goals as goal

pub returns-clause-found : goal.returns-clause-found
returns-clause-found c =
    rw (← c.self.view_is)
    (found-some _ c.self.inside.given.items c.args.pan.now c.shard_in.result (rw c.deref.ensures.value at c.shard_in.ensures))

pub returns-clause-only : goal.returns-clause-only
returns-clause-only c =
    rw (← c.self.view_is)
    (λ n b. (rw c.deref.ensures.value at c.shard_in.ensures) ∙ only _ c.self.inside.given.items c.args.pan.now n c.self.invariant.apart b)

pub returns-clause-there : goal.returns-clause-there
returns-clause-there c =
    rw (← c.self.view_is)
    (there-some _ c.self.inside.given.items c.args.pan.now c.shard_in.result (rw c.deref.ensures.value at c.shard_in.ensures)
    c.self.invariant.there)
