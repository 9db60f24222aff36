use Rattle.std.proofs.Common.{◌≡◌, refl, arith, ◌++◌, ◌∷◌, []}
use Rattle.std.proofs.lemmas.Grind.{common_steps}
use Rattle.iso_issuer.specs.Books.{journal}
use Rattle.iso_acquirer.specs.Acquirer.{debit_of}
use Rattle.iso_acquirer.proofs.Begun.{agreed-begun}
use Rattle.iso_acquirer.proofs.world.World.begin.Goals as goal

pub invariant_of-self-in-Ok : goal.invariant_of-self-in-Ok
invariant_of-self-in-Ok c =
    let a = c.self.inside.acquirer in
    let items : c.push.new.self.items ≡ c.self.inside.sent.items ++ c.in-Ok.order ∷ [] = grind (arith, common_steps) in
    let o = debit_of c.self.inside.acquirer c.args.pan c.args.amount c.args.currency c.args.sent in
    rw (items, c.in-Ok.ensures.begun, c.in-Ok.ensures.order) (record {
      agreed = agreed-begun a.id a.slots c.self.inside.sent.items c.self.inside.given.items (journal c.self.inside.issuer) o _ c.self.invariant.agreed refl refl refl refl;
      distinct = c.self.invariant.distinct;
    })
