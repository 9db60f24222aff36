use Rattle.std.proofs.Common.{◌≡◌, ap, sym, ◌∙◌, ◌+◌, subst}
use Rattle.std.specs.Prelude.{Some}
use Rattle.std.specs.BTreeMap as tree
use Rattle.iso_order.specs.declared.key.TxKey.{TxKey}
use Rattle.iso_issuer.specs.Index.{key_cmp}
use Rattle.iso_issuer.specs.Places.{tag_of, IsFreeFor, IsReadyFor}
use Rattle.iso_issuer.proofs.Placed.{told-slot, told-apart}
use Rattle.iso_issuer.proofs.key_places.KeyPlaces.settle.Goals as goal

pub returns-in-Some : goal.returns-in-Some
returns-in-Some c = λ orders order tells distinct own count new ready.
    let slots = c.args.self.now.slots.items in
    let free : IsFreeFor slots order.key c.in-Some.at =
    subst (λ (k : TxKey). IsFreeFor slots k c.in-Some.at) (sym own) (subst (IsReadyFor slots c.args.self.now.others c.args.place c.args.key.now) c.in-Some.is ready) in
    told-slot slots c.args.self.now.others orders order c.in-Some.at _ tells distinct new free (c.tag_of.ensures ∙ ap tag_of (sym own)) (ap (λ n. n + 1) (sym count))

pub returns-in_default : goal.returns-in_default
returns-in_default c = λ orders order tells distinct own count new ready.
    let there : tree.get key_cmp c.args.self.now.others c.args.key.now ≡ Some c.args.place =
    subst (IsReadyFor c.args.self.now.slots.items c.args.self.now.others c.args.place c.args.key.now) c.in_default.is ready in
    told-apart c.args.self.now.slots.items c.args.self.now.others orders order tells new (ap (tree.get key_cmp c.args.self.now.others) own ∙ there ∙ ap Some (sym count))
