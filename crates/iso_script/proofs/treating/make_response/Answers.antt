use Rattle.std.proofs.Common.{◌≡◌, ◌∙◌, ◌++◌, ◌≤◌, true, refl, sym, ap, subst, length, ℕ, List}
use Rattle.iso_wire.specs.Contents.{Contents}
use Rattle.iso_wire.specs.Spelling.{PlainSpelling}
use Rattle.iso_order.specs.Fitting.{IsAskedUnder}
use Rattle.iso_order.specs.Outcome.{Outcome}
use Rattle.iso_order.specs.Response.{is_showable}
use Rattle.iso_script.proofs.treating.make_response.Goals as goal

pub returns-in-Ok-clause-short : goal.returns-in-Ok-clause-short
returns-in-Ok-clause-short c =
    let t = c.args.table.now in
    let m = c.args.rooms.now.request in
    let a = c.only-answer.result in
    let none = subst (λ (o : Outcome). is_showable m o.shown ≡ true) (sym c.only-answer.ensures) refl in
    let asked : IsAskedUnder t m a = record { ready = c.requires.ready; bytes = c.requires.read.0; read = c.requires.read.1; shown = none } in
    let packed = c.in-Ok.ensures.packed in
    let plain = subst (λ (r : Contents). PlainSpelling t r packed.0) c.in_ok-respond_into.ensures.whole packed.1 in
    let items = packed.2 ∙ ap (λ (l : List ℕ). l ++ packed.0) c.clear.ensures.items in
    subst (λ (l : List ℕ). length l ≤ 9999) (sym items) (c.responses_are_short.ensures t m a packed.0 asked plain)
