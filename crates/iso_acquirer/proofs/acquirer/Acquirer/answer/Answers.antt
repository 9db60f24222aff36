use Rattle.std.proofs.Common.{◌≡◌, ap, sym, ◌∙◌, Some}
use Rattle.iso_acquirer.specs.Acquirer.{slot_at}
use Rattle.iso_acquirer.proofs.Kept.{request-at}
use Rattle.iso_acquirer.proofs.acquirer.Acquirer.answer.Goals as goal

pub answer_slot-requires-clause-request : goal.answer_slot-requires-clause-request
answer_slot-requires-clause-request c =
    let at : slot_at c.self.inside.slots.items c.args.key.stan ≡ Some c.in-Some.slot = ap (λ xs. slot_at xs c.args.key.stan) (sym c.deref.ensures.value) ∙ sym c.slot_at.ensures.value ∙ c.in-Some.is in
    request-at c.self.inside.slots.items c.args.key.stan c.in-Some.slot c.self.invariant.requests at
