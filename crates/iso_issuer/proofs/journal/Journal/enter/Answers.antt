use Rattle.std.proofs.Common.{◌≡◌, ap, sym, ◌∙◌, arith, length, ◌++◌, ◌∷◌, [], ◌<◌, ◌+◌, ◌-◌, subst}
use Rattle.std.specs.Prelude.{None, map}
use Rattle.std.proofs.lemmas.Grind.{common_steps}
use Rattle.iso_issuer.specs.declared.journal.Entry.{Entry}
use Rattle.iso_issuer.specs.Journal.{entry_at, HasDistinctKeys}
use Rattle.iso_issuer.specs.Index.{dropped_by_act, entries_from, IsIndexOf, hold_count, mark_at}
use Rattle.iso_issuer.specs.Places.{key_place, TellsPlaces, IsReadyFor}
use Rattle.iso_issuer.proofs.ByKey.{place_of-none}
use Rattle.iso_issuer.proofs.Counts.{few-counted, counted-dropped}
use Rattle.iso_issuer.proofs.Keyed.{place-entries}
use Rattle.iso_issuer.proofs.Stored.{entries-same, stored-alike, length-entries, orders-entries, index-entered, stored-entered, entries-entered, IsPut}
use Rattle.iso_issuer.proofs.journal.Journal.enter.Goals as goal

pub prepare-requires-clause-few : goal.prepare-requires-clause-few
prepare-requires-clause-few c =
    let i = c.self.inside in
    let es = entries_from 0 i.orders.items i.codes.items i.shown in
    let few : length es < 999999 = rw c.self.view_is c.requires.few in
    omega (arith, few, length-entries 0 i.orders.items i.codes.items i.shown c.self.invariant.0.coded, ap length c.deref.ensures.value)

pub prepare-requires-clause-distinct : goal.prepare-requires-clause-distinct
prepare-requires-clause-distinct c =
    let i = c.self.inside in
    let es = entries_from 0 i.orders.items i.codes.items i.shown in
    let distinct : HasDistinctKeys (map (λ (e : Entry). e.order) es) = rw c.self.view_is c.requires.distinct in
    subst HasDistinctKeys (orders-entries 0 i.orders.items i.codes.items i.shown c.self.invariant.0.coded ∙ sym c.deref.ensures.value) distinct

pub prepare-requires-clause-new : goal.prepare-requires-clause-new
prepare-requires-clause-new c =
    let i = c.self.inside in
    let es = entries_from 0 i.orders.items i.codes.items i.shown in
    let k = c.args.entry.now.order.key in
    let fresh : entry_at es k ≡ None = rw c.self.view_is c.requires.new in
    ap (key_place c.deref.result.now) c.key-key.ensures.value ∙ ap (λ os. key_place os k) c.deref.ensures.value
    ∙ sym (place-entries i.orders.items i.codes.items i.shown k c.self.invariant.0.coded) ∙ place_of-none es k fresh

pub store-requires-clause-room : goal.store-requires-clause-room
store-requires-clause-room c =
    let i = c.self.inside in
    let es = entries_from 0 i.orders.items i.codes.items i.shown in
    let few : length es < 999999 = rw c.self.view_is c.requires.few in
    omega (arith, few, length-entries 0 i.orders.items i.codes.items i.shown c.self.invariant.0.coded)

pub store-requires-clause-few : goal.store-requires-clause-few
store-requires-clause-few c =
    let i = c.self.inside in
    let es = entries_from 0 i.orders.items i.codes.items i.shown in
    few-counted es c.added_by-added.result i.index.counts c.self.invariant.0.indexed.counts (rw c.self.view_is c.requires.few)

pub store-requires-clause-counted : goal.store-requires-clause-counted
store-requires-clause-counted c =
    let i = c.self.inside in
    let es = entries_from 0 i.orders.items i.codes.items i.shown in
    let entry : Entry = c.args.entry.now in
    counted-dropped es entry c.dropped_by_order-dropped.result i.index.counts c.self.invariant.0.indexed.counts
    (c.dropped_by_order-dropped.ensures es (rw c.self.view_is c.requires.found.reversed))

pub settle-requires-clause-few : goal.settle-requires-clause-few
settle-requires-clause-few c =
    let i = c.self.inside in
    let es = entries_from 0 i.orders.items i.codes.items i.shown in
    let count : c.len-place.result ≡ length i.orders.items = grind (arith, common_steps) in
    let few : length es < 999999 = rw c.self.view_is c.requires.few in
    omega (arith, count, few, length-entries 0 i.orders.items i.codes.items i.shown c.self.invariant.0.coded)

pub invariant_of-self-2 : goal.invariant_of-self-2
invariant_of-self-2 c =
    let i = c.self.inside in
    let os = i.orders.items in
    let cs = i.codes.items in
    let es = entries_from 0 os cs i.shown in
    let o = c.args.entry.now.order in
    let entry : Entry = c.args.entry.now in
    let count : c.len-place.result ≡ length os = grind (arith, common_steps) in
    let coded = c.self.invariant.0.coded in
    let entries : length es ≡ length os = length-entries 0 os cs i.shown coded in
    let few : length es < 999999 = rw c.self.view_is c.requires.few in
    let below : length os < 999999 = omega (arith, few, entries) in
    let last : c.args.entry.now.answer.seq ≡ length es + 1 = rw c.self.view_is c.requires.seq in
    let seq : c.args.entry.now.answer.seq ≡ length os + 1 = omega (arith, last, entries) in
    let distinct : HasDistinctKeys (map (λ (e : Entry). e.order) es) = rw c.self.view_is c.requires.distinct in
    let fresh : entry_at es o.key ≡ None = rw c.self.view_is c.requires.new in
    let e = c.in_default.ensures in
    let is : IsIndexOf c.store.new.index (es ++ entry ∷ []) =
    index-entered es entry i.index c.store.new.index c.self.invariant.0.indexed distinct e.lefts
    (λ q pan.
    e.counts q pan
    ∙ ap (λ h. hold_count i.index.counts q pan - mark_at h q pan + mark_at c.added_by-added.result q pan) (c.dropped_by_order-dropped.ensures es (rw c.self.view_is c.requires.found.reversed))
    ∙ ap (λ h. hold_count i.index.counts q pan - mark_at (dropped_by_act es o.act) q pan + mark_at h q pan) (c.added_by-added.ensures es (rw c.self.view_is c.requires.found.own))) in
    let put : IsPut (length os) c.args.entry.now.answer.shown i.shown c.store.new.shown = e.shown in
    let told : TellsPlaces c.prepare.new.self.slots.items c.prepare.new.self.others os =
    subst (TellsPlaces c.prepare.new.self.slots.items c.prepare.new.self.others) c.deref.ensures.value c.prepare.ensures.told in
    let ready : IsReadyFor c.prepare.new.self.slots.items c.prepare.new.self.others c.len-place.result c.key-key.result c.in_ok-slot.slot =
    subst (λ n. IsReadyFor c.prepare.new.self.slots.items c.prepare.new.self.others n c.key-key.result c.in_ok-slot.slot)
    (ap length c.deref.ensures.value ∙ sym count) c.in_ok-slot.ensures.ready in
    let new : key_place os o.key ≡ None = sym (place-entries os cs i.shown o.key coded) ∙ place_of-none es o.key fresh in
    let settled = c.settle.ensures os o told (subst HasDistinctKeys (orders-entries 0 os cs i.shown coded) distinct) (sym c.key-key.ensures.value) (sym count) new ready in
    rw (e.orders, e.codes) (stored-entered os cs i.shown c.store.new.shown i.index c.store.new.index o c.args.entry.now.answer c.self.invariant.0 below e.code seq put is, settled)

pub returns-clause-ok : goal.returns-clause-ok
returns-clause-ok c =
    let i = c.self.inside in
    let os = i.orders.items in
    let cs = i.codes.items in
    let es = entries_from 0 os cs i.shown in
    let e = c.in_default.ensures in
    let last : c.args.entry.now.answer.seq ≡ length es + 1 = rw c.self.view_is c.requires.seq in
    let seq : c.args.entry.now.answer.seq ≡ length os + 1 = omega (arith, last, length-entries 0 os cs i.shown c.self.invariant.0.coded) in
    rw (e.orders, e.codes, ← c.self.view_is) (entries-entered os cs i.shown c.store.new.shown c.args.entry.now.order c.args.entry.now.answer c.self.invariant.0.coded seq e.shown)

pub invariant_of-self-in-Err : goal.invariant_of-self-in-Err
invariant_of-self-in-Err c =
    let i = c.self.inside in
    let os = i.orders.items in
    let es = entries_from 0 os i.codes.items i.shown in
    let k = c.args.entry.now.order.key in
    let e = c.in-Err.ensures in
    let fresh : entry_at es k ≡ None = rw c.self.view_is c.requires.new in
    let new : key_place os c.key-key.result ≡ None =
    ap (key_place os) c.key-key.ensures.value ∙ sym (place-entries os i.codes.items i.shown k c.self.invariant.0.coded) ∙ place_of-none es k fresh in
    let told : TellsPlaces c.prepare.new.self.slots.items c.prepare.new.self.others os =
    subst (TellsPlaces c.prepare.new.self.slots.items c.prepare.new.self.others) c.deref.ensures.value c.prepare.ensures.told in
    rw (e.orders_kept, e.codes_kept)
    (stored-alike os i.codes.items i.shown c.store.new.shown i.index c.store.new.index c.self.invariant.0 e.shown_kept (record { lefts = e.lefts_kept; counts = e.counts_kept }), c.withdraw.ensures os told new)

pub returns-in-Err-clause-unchanged : goal.returns-in-Err-clause-unchanged
returns-in-Err-clause-unchanged c =
    let i = c.self.inside in
    let e = c.in-Err.ensures in
    rw (e.orders_kept, e.codes_kept, ← c.self.view_is) (entries-same 0 i.orders.items i.codes.items c.store.new.shown i.shown (λ at below. e.shown_kept at))
