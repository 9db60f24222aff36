use Rattle.std.proofs.Common.{◌≡◌}
use Rattle.std.specs.Prelude.{slice_get, Some}
use Rattle.iso_issuer.specs.Books.{journal}
use Rattle.iso_acquirer.specs.Agreed.{answer_at}
use Rattle.iso_acquirer.proofs.Lists.{all-at}
use Rattle.iso_acquirer.proofs.Answered.{agreed-answered}
use Rattle.iso_acquirer.proofs.world.World.answer.Goals as goal

pub invariant_of-self : goal.invariant_of-self
invariant_of-self c =
    let w = c.self.inside in
    let at : slice_get c.self.inside.given.items c.args.place ≡ Some c.in-Some.given = cc in
    let kept = all-at (λ g. answer_at (journal c.self.inside.issuer) g.key ≡ Some g.answer) c.self.inside.given.items c.args.place c.in-Some.given c.self.invariant.agreed.given_kept at in
    rw c.hand_answer.ensures (record {
      agreed = agreed-answered c.reversals_stay.ensures.wholly w.acquirer.id w.acquirer.slots w.sent.items w.given.items (journal w.issuer) c.in-Some.given.key c.in-Some.given.answer c.self.invariant.agreed kept;
      distinct = c.self.invariant.distinct;
    })
