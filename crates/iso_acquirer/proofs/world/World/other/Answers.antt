use Rattle.std.proofs.Common.{ap, sym, ◌∙◌}
use Rattle.iso_acquirer.proofs.Entered.{agreed-entering}
use Rattle.iso_acquirer.proofs.world.World.other.Goals as goal
use Rattle.iso_acquirer.proofs.world.World.other.Goals.{in-Ok, in-Err}

pub invariant_of-self : goal.invariant_of-self
invariant_of-self c =
    elim c.match-handle.branch [
      | in-Ok w ↦ rw w.in-Ok.ensures.entered (record {
        agreed = agreed-entering c.reversals_stay.ensures.reversed c.journals_grow.ensures.grown c.keys_stay_distinct.ensures.known c.keys_stay_distinct.ensures.new
            c.self.inside.acquirer.id c.self.inside.acquirer.slots c.self.inside.sent.items c.self.inside.given.items c.self.inside.issuer c.args.order
            c.self.invariant.agreed c.self.invariant.distinct c.key.ensures.valid
            (λ e. absurd (c.if-key-id.false (ap (λ k. k.acquirer) c.key.ensures.value ∙ e ∙ sym c.id.ensures)));
        distinct = c.keys_stay_distinct.ensures.distinct c.self.inside.issuer c.args.order c.self.invariant.distinct;
      })
      | in-Err w ↦ rw w.in-Err.ensures.unchanged c.self.invariant
    ]
