use Rattle.std.proofs.Common.{◌≡◌, ap, sym, ◌∙◌, ◌+◌, ◌<◌, arith}
use Rattle.std.specs.Prelude.{Some}
use Rattle.std.specs.List.{position_from}
use Rattle.iso_issuer.specs.Places.{window_of, is_free}
use Rattle.iso_issuer.proofs.Placed.{window-inside}
use Rattle.iso_issuer.proofs.key_places.free_for.Goals as goal

pub returns-in-Some : goal.returns-in-Some
returns-in-Some c =
    let slots = c.args.slots.now in
    let key = c.args.key.now in
    let first : position_from is_free 0 (window_of slots key) ≡ Some c.in-Some.behind =
    ap (position_from is_free 0) (sym c.window_of.ensures) ∙ sym c.first_free.ensures ∙ c.in-Some.is in
    let inside : c.in-Some.behind < 16 = window-inside slots key c.in-Some.behind first in
    record {
      long = c.if-slots-gt-WINDOW.true;
      behind = c.in-Some.behind;
      there = ap (λ n. n + c.in-Some.behind) c.start_of.ensures.value;
      first = first;
      within = omega (arith, c.start_of.ensures.within, inside);
    }

pub overflow_add-result : goal.overflow_add-result
overflow_add-result c =
    let slots = c.args.slots.now in
    let key = c.args.key.now in
    let first : position_from is_free 0 (window_of slots key) ≡ Some c.in-Some.behind =
    ap (position_from is_free 0) (sym c.window_of.ensures) ∙ sym c.first_free.ensures ∙ c.in-Some.is in
    let inside : c.in-Some.behind < 16 = window-inside slots key c.in-Some.behind first in
    omega (arith, c.start_of.ensures.within, inside)
