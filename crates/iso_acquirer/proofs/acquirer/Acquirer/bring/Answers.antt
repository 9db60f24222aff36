use Rattle.std.proofs.Common.{◌≡◌, sym, ◌∙◌, ap, refl, length, subst, Some}
use Rattle.std.proofs.lemmas.List.{with_items_is}
use Rattle.iso_acquirer.specs.Acquirer.{Party, slot_at, on_stage, slots_at_stage}
use Rattle.iso_acquirer.proofs.Kept.{kept-brought, open-counted}
use Rattle.iso_acquirer.proofs.Numbered.{length-changed}
use Rattle.iso_acquirer.proofs.acquirer.Acquirer.bring.Goals as goal

pub overflow_sub-self : goal.overflow_sub-self
overflow_sub-self c =
    open-counted c.self.inside.id c.self.inside.slots.items c.self.inside.reversals_left _ _ c.args.slot.now.order.key.stan c.reversals_of-before.result c.args.slot.now c.self.invariant
    (subst (λ (p : Party). slot_at p.slots c.args.slot.now.order.key.stan ≡ Some c.args.slot.now) (sym c.self.view_is) c.requires.there) c.reversals_of-before.ensures

pub invariant_of-self : goal.invariant_of-self
invariant_of-self c =
    let slots = c.self.inside.slots.items in
    let there : slot_at slots c.args.slot.now.order.key.stan ≡ Some c.args.slot.now =
    subst (λ (p : Party). slot_at p.slots c.args.slot.now.order.key.stan ≡ Some c.args.slot.now) (sym c.self.view_is) c.requires.there in
    let put : c.put_stage.new.slots ≡ slots_at_stage (λ _. c.args.stage) c.args.slot.now.order.key.stan slots =
    c.put_stage.ensures (λ _. c.args.stage) (ap (on_stage (λ _. c.args.stage)) c.requires.transaction.1) ∙ ap (slots_at_stage (λ _. c.args.stage) c.args.slot.now.order.key.stan) c.deref_mut.ensures.value in
    let same : length c.put_stage.new.slots ≡ c.self.inside.slots.len =
    ap length put ∙ length-changed (λ _. c.args.stage) c.args.slot.now.order.key.stan slots ∙ sym c.self.inside.slots.ok.0 in
    let enough = open-counted c.self.inside.id slots c.self.inside.reversals_left _ _ c.args.slot.now.order.key.stan c.reversals_of-before.result c.args.slot.now c.self.invariant there c.reversals_of-before.ensures in
    rw (with_items_is c.self.inside.slots c.put_stage.new.slots same ∙ put)
    (kept-brought c.self.inside.id slots c.self.inside.reversals_left _ _ _ _ c.args.slot.now.order.key.stan c.reversals_of-before.result c.reversals_at-after.result c.args.slot.now c.requires.transaction.0 c.args.stage
    c.self.invariant there c.requires.transaction.1 c.reversals_of-before.ensures c.reversals_at-after.ensures (rw (c.reversals_of-before.ensures, c.reversals_at-after.ensures) c.requires.fewer) enough refl refl c.requires.traced)
