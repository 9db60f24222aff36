use Rattle.std.proofs.Common.{◌≡◌, sym, ◌∙◌, ap, subst, Some, None}
use Rattle.iso_acquirer.specs.declared.slot.Role.TheVariants.{Transaction}
use Rattle.iso_acquirer.specs.Acquirer.{Party, slot_at, on_stage, slots_at_stage, stage_after_undo}
use Rattle.iso_acquirer.specs.Room.{AreNumbered}
use Rattle.iso_acquirer.proofs.Kept.{request-at, request-of, undone-traced}
use Rattle.iso_acquirer.proofs.Numbered.{found, unchanged, reversal-stays}
use Rattle.iso_acquirer.proofs.acquirer.Acquirer.answer_reversal.Goals as goal

pub returns-in_default : goal.returns-in_default
returns-in_default c =
    let none : slot_at c.self.inside.slots.items c.args.original ≡ None = ap (λ xs. slot_at xs c.args.original) (sym c.deref.ensures.value) ∙ sym c.slot_at.ensures.value ∙ c.in_default.is in
    let gone : slot_at c.args.self.now.slots c.args.original ≡ None = ap (λ (p : Party). slot_at p.slots c.args.original) (sym c.self.view_is) ∙ none in
    ap (λ xs. record { id = c.args.self.now.id; slots = xs }) (sym (unchanged (stage_after_undo c.args.code) c.args.self.now.slots c.args.original gone))

pub returns-in-Transaction : goal.returns-in-Transaction
returns-in-Transaction c =
    let at : slot_at c.self.inside.slots.items c.args.original ≡ Some c.in-Some.slot = ap (λ xs. slot_at xs c.args.original) (sym c.deref.ensures.value) ∙ sym c.slot_at.ensures.value ∙ c.in-Some.is in
    let stan = (found c.self.inside.slots.items 1 c.args.original c.in-Some.slot c.self.invariant.numbered at).0 in
    c.bring.ensures (stage_after_undo c.args.code) (ap (on_stage (stage_after_undo c.args.code)) c.in-Transaction.is ∙ ap Transaction (sym c.stage_after_undo.ensures))
    ∙ ap (λ n. record { id = c.args.self.now.id; slots = slots_at_stage (stage_after_undo c.args.code) n c.args.self.now.slots }) stan

pub returns-in-Reversal : goal.returns-in-Reversal
returns-in-Reversal c =
    let at : slot_at c.self.inside.slots.items c.args.original ≡ Some c.in-Some.slot = ap (λ xs. slot_at xs c.args.original) (sym c.deref.ensures.value) ∙ sym c.slot_at.ensures.value ∙ c.in-Some.is in
    let there : slot_at c.args.self.now.slots c.args.original ≡ Some c.in-Some.slot = ap (λ (p : Party). slot_at p.slots c.args.original) (sym c.self.view_is) ∙ at in
    let numbered : AreNumbered 1 c.args.self.now.slots = subst (λ (p : Party). AreNumbered 1 p.slots) c.self.view_is c.self.invariant.numbered in
    ap (λ xs. record { id = c.args.self.now.id; slots = xs })
    (sym (reversal-stays (stage_after_undo c.args.code) c.args.self.now.slots 1 c.args.original c.in-Reversal.field-0 c.in-Some.slot numbered there c.in-Reversal.is))

pub bring-requires-clause-traced : goal.bring-requires-clause-traced
bring-requires-clause-traced c =
    let at : slot_at c.self.inside.slots.items c.args.original ≡ Some c.in-Some.slot = ap (λ xs. slot_at xs c.args.original) (sym c.deref.ensures.value) ∙ sym c.slot_at.ensures.value ∙ c.in-Some.is in
    let stage = c.in-Transaction.stage in
    let request = request-at c.self.inside.slots.items c.args.original c.in-Some.slot c.self.invariant.requests at in
    rw c.stage_after_undo.ensures (undone-traced stage c.args.code (request-of c.in-Some.slot stage request c.in-Transaction.is).1)
