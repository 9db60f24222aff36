use Rattle.std.proofs.Common.{◌≡◌, ap, arith, ◌++◌, ◌∷◌, []}
use Rattle.std.proofs.lemmas.Grind.{common_steps}
use Rattle.iso_issuer.specs.Books.{journal}
use Rattle.iso_acquirer.proofs.TimedOut.{agreed-asked}
use Rattle.iso_acquirer.proofs.world.World.timeout.Goals as goal

pub invariant_of-self-in-Ok : goal.invariant_of-self-in-Ok
invariant_of-self-in-Ok c =
    let a = c.self.inside.acquirer in
    let items : c.push.new.self.items ≡ c.self.inside.sent.items ++ c.in-Ok.order ∷ [] = grind (arith, common_steps) in
    rw (items, c.in-Ok.ensures.own) (record {
      agreed = agreed-asked a.id a.slots c.self.inside.sent.items c.self.inside.given.items (journal c.self.inside.issuer) c.self.invariant.agreed c.args.stan (c.in-Ok.order, c.timeout.new.self.slots) c.in-Ok.ensures.ok;
      distinct = c.self.invariant.distinct;
    })

pub returns-in-Ok-clause-ok : goal.returns-in-Ok-clause-ok
returns-in-Ok-clause-ok c =
    let items : c.push.new.self.items ≡ c.self.inside.sent.items ++ c.in-Ok.order ∷ [] = grind (arith, common_steps) in
    rw (← c.self.view_is, items) (record {
      asked = (c.in-Ok.order, c.timeout.new.self.slots);
      found = c.in-Ok.ensures.ok;
      after = ap (λ i. record {
        acquirer = record { id = i; slots = c.timeout.new.self.slots };
        sent = c.self.inside.sent.items ++ c.in-Ok.order ∷ [];
        given = c.self.inside.given.items;
        issuer = c.self.inside.issuer;
      }) c.in-Ok.ensures.own;
    })
