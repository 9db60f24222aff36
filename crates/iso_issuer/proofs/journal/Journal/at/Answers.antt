use Rattle.std.proofs.Common.{ap, sym, ◌∙◌, arith, ◌<◌, length, get_or}
use Rattle.std.specs.Prelude.{Some}
use Rattle.std.proofs.lemmas.Option.{slice_get-get_or}
use Rattle.iso_issuer.specs.declared.journal.Entry.{Entry}
use Rattle.iso_issuer.specs.Index.{entries_from}
use Rattle.iso_issuer.proofs.Stored.{entry, entry-at-place, length-entries}
use Rattle.iso_issuer.proofs.journal.Journal.at.Goals as goal

pub index-order-requires : goal.index-order-requires
index-order-requires c =
    let i = c.self.inside in
    let told : c.args.place < length (entries_from 0 i.orders.items i.codes.items i.shown) = rw c.self.view_is c.requires in
    omega (arith, told, length-entries 0 i.orders.items i.codes.items i.shown c.self.invariant.0.coded)

pub index-requires : goal.index-requires
index-requires c =
    let i = c.self.inside in
    let told : c.args.place < length (entries_from 0 i.orders.items i.codes.items i.shown) = rw c.self.view_is c.requires in
    omega (arith, told, length-entries 0 i.orders.items i.codes.items i.shown c.self.invariant.0.coded, c.self.invariant.0.coded)

pub overflow_cast-number : goal.overflow_cast-number
overflow_cast-number c =
    let i = c.self.inside in
    let told : c.args.place < length (entries_from 0 i.orders.items i.codes.items i.shown) = rw c.self.view_is c.requires in
    omega (arith, told, length-entries 0 i.orders.items i.codes.items i.shown c.self.invariant.0.coded, c.self.invariant.0.few)

pub overflow_add-result : goal.overflow_add-result
overflow_add-result c =
    let i = c.self.inside in
    let told : c.args.place < length (entries_from 0 i.orders.items i.codes.items i.shown) = rw c.self.view_is c.requires in
    omega (arith, told, length-entries 0 i.orders.items i.codes.items i.shown c.self.invariant.0.coded, c.self.invariant.0.few)

pub invariant_of-result : goal.invariant_of-result
invariant_of-result c =
    let i = c.self.inside in
    let told : c.args.place < length (entries_from 0 i.orders.items i.codes.items i.shown) = rw c.self.view_is c.requires in
    let below : c.args.place < length i.orders.items = omega (arith, told, length-entries 0 i.orders.items i.codes.items i.shown c.self.invariant.0.coded) in
    let coded : c.args.place < length i.codes.items = omega (arith, below, c.self.invariant.0.coded) in (
      rw c.index.ensures (c.self.invariant.0.two_digits c.args.place c.index.result.now coded),
      omega (arith, below, c.self.invariant.0.few),
    )

pub returns : goal.returns
returns c =
    let i = c.self.inside in
    let p = c.args.place in
    let os = i.orders.items in
    let cs = i.codes.items in
    let es = entries_from 0 os cs i.shown in
    let within : p < length es = rw c.self.view_is c.requires in
    let below : p < length os = omega (arith, within, length-entries 0 os cs i.shown c.self.invariant.0.coded) in
    let told = c.copied.ensures ∙ c.get.ensures.value in
    let there : Entry = entry c.index-order.result.now c.index.result.now p c.copied.result in
    rw (← c.self.view_is)
    (slice_get-get_or es p there within ∙ ap Some (entry-at-place p os cs i.shown there c.index-order.result.now c.index.result.now c.self.invariant.0.coded below)
    ∙ sym (ap (λ o. Some (entry o c.index.result.now p c.copied.result)) c.index-order.ensures
    ∙ ap (λ n. Some (entry (get_or os p c.index-order.result.now) n p c.copied.result)) c.index.ensures
    ∙ ap (λ z. Some (entry (get_or os p c.index-order.result.now) (get_or cs p c.index.result.now) p z)) told))
