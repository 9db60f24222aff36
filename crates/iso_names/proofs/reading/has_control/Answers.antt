use Rattle.std.proofs.Common.{◌≡◌, ℕ, ◌+◌, ◌<◌, ◌||◌, true, false, List, length, get_or, drop, sym, ap, ◌∙◌, arith}
use Rattle.std.proofs.lemmas.Iterator.{YieldsList-from_chars}
use Rattle.std.proofs.lemmas.List.{at_drop_more, at_drop_all, length_push}
use Rattle.std.proofs.lemmas.Iterator.Consumers.{YieldsList-turn, YieldsList-end}
use Rattle.std.specs.List.{list_any}
use Rattle.std.specs.Str.{chars}
use Rattle.std.specs.Char.{is_control}
use Rattle.iso_names.proofs.reading.has_control.Goals as goal

-- the test of the rest from the next character on
any_drop : (cs : List ℕ) (n c : ℕ) → (n < length cs) × (c ≡ get_or cs n c) → list_any is_control (drop n cs) ≡ (is_control c || list_any is_control (drop (n + 1) cs))
any_drop cs n c h = at_drop_more (list_any is_control) cs n c h.0 ∙ ap (λ x. is_control x || list_any is_control (drop (n + 1) cs)) (sym h.1)

pub returns-then-is_control : goal.returns-then-is_control
returns-then-is_control c =
    let t = YieldsList-turn (YieldsList-from_chars c.args.text.now c.utf8.text cc) c.loop-c.yielded _ c.loop-c.yielded_by _ _ c.in-Some.c c.in-Some.is c.next.ensures.steps in
    let e = any_drop _ _ _ t in
    let rest = list_any is_control (drop (length c.loop-c.yielded + 1) (chars c.args.text.now)) in
    let is : is_control c.in-Some.c ≡ true = sym c.is_control.ensures ∙ c.if-is_control.true in
    sym (sym c.loop-c.invariant ∙ e ∙ ap (λ x. x || rest) is)

pub loop-c-preserved : goal.loop-c-preserved
loop-c-preserved c =
    let t = YieldsList-turn (YieldsList-from_chars c.args.text.now c.utf8.text cc) c.loop-c.yielded _ c.loop-c.yielded_by _ _ c.in-Some.c c.in-Some.is c.next.ensures.steps in
    let e = any_drop _ _ _ t in
    let rest = list_any is_control (drop (length c.loop-c.yielded + 1) (chars c.args.text.now)) in
    let is : is_control c.in-Some.c ≡ false = sym c.is_control.ensures ∙ c.if-is_control.false in
    rw (length_push c.loop-c.yielded c.in-Some.c) (sym (e ∙ ap (λ x. x || rest) is) ∙ c.loop-c.invariant)

pub returns : goal.returns
returns c =
    let t = YieldsList-end (YieldsList-from_chars c.args.text.now c.utf8.text cc) c.loop-c.yielded _ c.loop-c.yielded_by _ _ c.in-None.is c.next.ensures.steps in
    sym (sym c.loop-c.invariant ∙ at_drop_all (list_any is_control) (chars c.args.text.now) (length c.loop-c.yielded) (omega (arith, t.1)))
