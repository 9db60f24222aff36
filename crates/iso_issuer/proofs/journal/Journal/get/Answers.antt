use Rattle.std.proofs.Common.{◌≡◌, ap, sym, ◌∙◌}
use Rattle.std.specs.Prelude.{Some, None}
use Rattle.iso_issuer.specs.Index.{entries_from, place_of}
use Rattle.iso_issuer.specs.Places.{key_place}
use Rattle.iso_issuer.proofs.Keyed.{entry-none, entry-there, place-entries}
use Rattle.iso_issuer.proofs.journal.Journal.get.Goals as goal

pub returns-in_err-place : goal.returns-in_err-place
returns-in_err-place c =
    let i = c.self.inside in
    let es = entries_from 0 i.orders.items i.codes.items i.shown in
    let none : place_of es c.args.key ≡ None = place-entries i.orders.items i.codes.items i.shown c.args.key c.self.invariant.0.coded
    ∙ sym (ap (λ os. key_place os c.args.key) c.deref.ensures.value) ∙ sym c.in_err-place.ensures in
    c.from_residual.ensures ∙ sym (rw (← c.self.view_is) (entry-none es c.args.key none))

pub returns : goal.returns
returns c =
    let i = c.self.inside in
    let es = entries_from 0 i.orders.items i.codes.items i.shown in
    let there : place_of es c.args.key ≡ Some c.in_ok-place.place =
    place-entries i.orders.items i.codes.items i.shown c.args.key c.self.invariant.0.coded
    ∙ sym (ap (λ os. key_place os c.args.key) c.deref.ensures.value) ∙ sym c.in_ok-place.ensures in
    c.entry.ensures ∙ rw (← c.self.view_is) (entry-there es c.args.key c.in_ok-place.place there)
