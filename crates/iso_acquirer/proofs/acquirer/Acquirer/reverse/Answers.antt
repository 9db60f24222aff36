use Rattle.std.proofs.Common.{◌≡◌, arith, sym, ◌∙◌, ap, ◌++◌, ◌∷◌, [], length, subst, Some, refl, ◌+◌, ℕ}
use Rattle.std.proofs.lemmas.List.{with_items_is}
use Rattle.iso_order.specs.Order.{Instruction}
use Rattle.iso_acquirer.specs.declared.slot.Role.{Role}
use Rattle.iso_acquirer.specs.declared.slot.Role.TheVariants.{Transaction, Reversal}
use Rattle.iso_acquirer.specs.declared.slot.Stage.TheVariants.{Reversing}
use Rattle.iso_acquirer.specs.Acquirer.{Party, slot_at, reversal_for, on_stage, slots_at_stage, slots_with_reversal, reversal_under, next_reversal}
use Rattle.iso_acquirer.specs.Room.{reversals_of}
use Rattle.iso_acquirer.proofs.Kept.{kept-reversing, open-counted, request-found}
use Rattle.iso_acquirer.proofs.Numbered.{length-changed}
use Rattle.iso_acquirer.proofs.acquirer.Acquirer.reverse.Goals as goal

-- what may be reversed is a transaction
on_transaction : (r : Role) (u : ℕ) → reversals_of r ≡ 1 → on_stage (λ _. Reversing u) r ≡ Transaction (Reversing u)
on_transaction (Transaction stage) u one = refl
on_transaction (Reversal k) u one = cc

pub reversal_under-undo-requires-clause-base : goal.reversal_under-undo-requires-clause-base
reversal_under-undo-requires-clause-base c =
    request-found c.self.inside.slots.items c.args.slot.now.order.key.stan c.args.slot.now c.self.invariant.requests
    (subst (λ (p : Party). slot_at p.slots c.args.slot.now.order.key.stan ≡ Some c.args.slot.now) (sym c.self.view_is) c.requires.there) c.requires.asked

pub push_reserved-requires : goal.push_reserved-requires
push_reserved-requires c =
    let enough = open-counted c.self.inside.id c.self.inside.slots.items c.self.inside.reversals_left _ _ c.args.slot.now.order.key.stan 1 c.args.slot.now c.self.invariant
    (subst (λ (p : Party). slot_at p.slots c.args.slot.now.order.key.stan ≡ Some c.args.slot.now) (sym c.self.view_is) c.requires.there) (sym c.requires.asked) in
    omega (arith, enough, c.self.invariant.room)

pub overflow_sub-self : goal.overflow_sub-self
overflow_sub-self c =
    open-counted c.self.inside.id c.self.inside.slots.items c.self.inside.reversals_left _ _ c.args.slot.now.order.key.stan 1 c.args.slot.now c.self.invariant
    (subst (λ (p : Party). slot_at p.slots c.args.slot.now.order.key.stan ≡ Some c.args.slot.now) (sym c.self.view_is) c.requires.there) (sym c.requires.asked)

pub invariant_of-self : goal.invariant_of-self
invariant_of-self c =
    let slots = c.self.inside.slots.items in
    let stan = c.args.slot.now.order.key.stan in
    let u = c.reversal_under-undo.result in
    let many : length slots ≡ c.len-used.result = sym c.self.inside.slots.ok.0 ∙ sym c.len-used.ensures in
    let undo : u ≡ next_reversal slots c.args.slot.now.order =
    c.reversal_under-undo.ensures ∙ ap (λ n. reversal_under (n + 1) c.args.slot.now.order) (sym many) in
    let number : c.len-used.result + 1 ≡ u.key.stan = ap (λ n. n + 1) (sym many) ∙ sym (ap (λ (o : Instruction). o.key.stan) undo) in
    let put : c.put_stage.new.slots ≡ slots_at_stage (λ _. Reversing u.key.stan) stan slots =
    c.put_stage.ensures (λ _. Reversing u.key.stan) (on_transaction c.args.slot.now.role u.key.stan c.requires.asked ∙ ap (λ n. Transaction (Reversing n)) (sym number))
    ∙ ap (slots_at_stage (λ _. Reversing u.key.stan) stan) c.deref_mut.ensures.value in
    let same : length c.put_stage.new.slots ≡ c.self.inside.slots.len =
    ap length put ∙ length-changed (λ _. Reversing u.key.stan) stan slots ∙ sym c.self.inside.slots.ok.0 in
    let items : c.push_reserved.new.self.items ≡ slots_with_reversal slots stan u =
    c.push_reserved.ensures.items ∙ ap (λ xs. xs ++ reversal_for c.key.result.stan u ∷ []) (with_items_is c.self.inside.slots c.put_stage.new.slots same ∙ put)
    ∙ ap (λ k. slots_at_stage (λ _. Reversing u.key.stan) stan slots ++ reversal_for k.stan u ∷ []) c.key.ensures.value in
    rw items
    (kept-reversing c.self.inside.id slots c.self.inside.reversals_left _ _ _ _ stan c.args.slot.now u c.self.invariant
    (subst (λ (p : Party). slot_at p.slots stan ≡ Some c.args.slot.now) (sym c.self.view_is) c.requires.there) c.requires.asked
    (ap (λ o. o.key.stan) undo) (omega (arith, many, c.if-used.false)) c.push_reserved.ensures.len c.push_reserved.ensures.capacity)
