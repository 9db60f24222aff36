use Rattle.std.proofs.Common.{◌≡◌, ◌<◌, ap, sym, ◌∙◌, arith, subst, take, length, ◌++◌, ◌∷◌, []}
use Rattle.std.specs.Prelude.{ℕ, Some, None}
use Rattle.std.proofs.lemmas.List.{take_more, length-take-le}
use Rattle.std.proofs.lemmas.Option.{slice_get-get_or}
use Rattle.iso_order.specs.Order.{Instruction}
use Rattle.iso_issuer.specs.Places.{key_place, IsReadyFor, TellsPlaces}
use Rattle.iso_issuer.proofs.Kept.{distinct-taken}
use Rattle.iso_issuer.proofs.Placed.{told-nothing}
use Rattle.iso_issuer.proofs.Slots.{new-before}
use Rattle.iso_issuer.proofs.key_places.KeyPlaces.grown.Goals as goal

pub loop-place-init : goal.loop-place-init
loop-place-init c = told-nothing c.in_ok-vec.field-0.items c.new.result

pub loop-place-preserved : goal.loop-place-preserved
loop-place-preserved c =
    let os = c.args.orders.now in
    let place = c.loop-place.place in
    let order : Instruction = c.index-orders-place.result in
    let below : place < length os = c.loop-place-test.true in
    let there = slice_get-get_or os place order below ∙ ap Some (sym c.index-orders-place.is) in
    let new : key_place (take place os) order.key ≡ None = new-before os place order c.requires.distinct there in
    let own : order.key ≡ c.key-key.result = sym c.key-key.ensures.value in
    let count : length (take place os) ≡ place = length-take-le place os (omega (arith, below)) in
    let told = c.ready.ensures.told c.loop-place.invariant (ap (key_place (take place os)) (sym own) ∙ new) in
    let ready : IsReadyFor c.ready.new.self.slots.items c.ready.new.self.others place c.key-key.result c.in_ok-slot.slot =
    subst (λ (n : ℕ). IsReadyFor c.ready.new.self.slots.items c.ready.new.self.others n c.key-key.result c.in_ok-slot.slot) count c.in_ok-slot.ensures.ready in
    let settled = c.settle.ensures (take place os) order told (distinct-taken place os c.requires.distinct) own count new ready in
    let more = take_more os place order below ∙ ap (λ (o : Instruction). take place os ++ o ∷ []) (sym c.index-orders-place.is) in
    subst (TellsPlaces c.settle.new.self.slots.items c.settle.new.self.others) (sym more) settled
