use Rattle.std.proofs.Common.{◌≡◌, ◌++◌, ◌∷◌, [], List, arith, ap, sym, ◌∙◌, length}
use Rattle.std.specs.Prelude.{Some}
use Rattle.iso_mix.specs.declared.asked.Side.{Side}
use Rattle.iso_waits.specs.declared.due.Due.{Due}
use Rattle.iso_mix.specs.Begun.{opened}
use Rattle.iso_mix.specs.Orders.{opening_order}
use Rattle.iso_waits.specs.Waits.{moment_after}
use Rattle.iso_mix.proofs.Began.{kept-opened}
use Rattle.iso_mix.proofs.Kept.{kept-same}
use Rattle.iso_mix.proofs.sides.Sides.open_one.Goals as goal

pub returns-clause-kept : goal.returns-clause-kept
returns-clause-kept c = λ b.
    let old = c.args.self.now in
    let d = c.args.draft.now in
    let o = c.in-Some.order in
    let at = c.moment_after-at.result in
    let order : opening_order c.args.kind d (length old.made.items) ≡ Some o =
    ap (opening_order c.args.kind d) (sym (c.len.ensures ∙ old.made.ok.0)) ∙ sym c.in-Some.ensures in
    kept-same (old.made.items ++ opened d.place o ∷ []) _ (old.waiting.items ++ record { stan = o.key.stan; at = at } ∷ []) _ at _
    (c.push_opened.ensures ∙ ap (λ (l : List Side). l ++ opened d.place o ∷ []) c.in_ok-reserve.ensures.items)
    (c.wait.ensures ∙ ap (λ (l : List Due). l ++ record { stan = c.key.result.stan; at = at } ∷ []) c.in_ok-reserve-2.ensures.items
    ∙ ap (λ k. old.waiting.items ++ record { stan = k; at = at } ∷ []) (ap (λ k. k.stan) c.key.ensures.value))
    (sym c.moment_after-at.ensures)
    (kept-opened c.who_waits.ensures.who c.who_waits.ensures.in_time old.made.items old.waiting.items (moment_after old.clock old.patience) at c.args.kind d o b
    (omega (arith, c.moment_after-at.ensures, c.max-self.ensures)) order)
