use Rattle.std.proofs.Common.{◌≡◌, arith, ◌++◌, ◌∷◌, []}
use Rattle.std.specs.Prelude.{slice_get, Some}
use Rattle.std.proofs.lemmas.Grind.{common_steps}
use Rattle.iso_acquirer.specs.Acquirer.{order_at}
use Rattle.iso_acquirer.proofs.Lists.{all-at}
use Rattle.iso_acquirer.proofs.Entered.{agreed-delivered}
use Rattle.iso_acquirer.proofs.world.World.deliver.Goals as goal

pub invariant_of-self-in-Ok : goal.invariant_of-self-in-Ok
invariant_of-self-in-Ok c =
    let sent : slice_get c.self.inside.sent.items c.args.place ≡ Some c.in-Some.order = cc in
    let known : order_at c.self.inside.acquirer.slots c.in-Some.order.key.stan ≡ Some c.in-Some.order =
    all-at (λ o. order_at c.self.inside.acquirer.slots o.key.stan ≡ Some o) c.self.inside.sent.items c.args.place c.in-Some.order c.self.invariant.agreed.sent_known sent in
    let items : c.push.new.self.items ≡ c.self.inside.given.items ++ record { key = c.key.result; answer = c.in-Ok.answer } ∷ [] = grind (arith, common_steps) in
    rw (items, c.in-Ok.ensures.entered, c.in-Ok.ensures.answer, c.key.ensures.value) (record {
      agreed = agreed-delivered c.reversals_stay.ensures.reversed c.journals_grow.ensures.grown c.keys_stay_distinct.ensures.known c.keys_stay_distinct.ensures.new
          c.self.inside.acquirer.id c.self.inside.acquirer.slots c.self.inside.sent.items c.self.inside.given.items c.self.inside.issuer c.in-Some.order
          c.self.invariant.agreed c.self.invariant.distinct c.answers_are_entered.ensures c.key.ensures.valid known;
      distinct = c.keys_stay_distinct.ensures.distinct c.self.inside.issuer c.in-Some.order c.self.invariant.distinct;
    })
