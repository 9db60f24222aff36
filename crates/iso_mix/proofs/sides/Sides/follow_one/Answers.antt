use Rattle.std.proofs.Common.{◌++◌, ◌∷◌, [], List, arith, ap, sym, ◌∙◌, subst}
use Rattle.std.proofs.lemmas.List.{with_items_is}
use Rattle.iso_mix.specs.declared.asked.Side.{Side}
use Rattle.iso_waits.specs.declared.due.Due.{Due}
use Rattle.iso_mix.specs.Asked.{sides_followed}
use Rattle.iso_mix.specs.Begun.{Follows}
use Rattle.iso_waits.specs.Waits.{moment_after}
use Rattle.iso_mix.proofs.Began.{kept-followed}
use Rattle.iso_mix.proofs.Kept.{kept-same}
use Rattle.iso_mix.proofs.sides.Sides.follow_one.Goals as goal

pub returns-clause-kept : goal.returns-clause-kept
returns-clause-kept c = λ b.
    let old = c.args.self.now in
    let d = c.args.draft.now in
    let place = c.in-Some.place in
    let o = c.in-Some-follower_at.order in
    let at = c.moment_after-at.result in
    let follows : Follows c.args.kind d old.made.items place o =
    subst (λ (l : List Side). Follows c.args.kind d l place o) c.deref.ensures.value c.in-Some-follower_at.ensures in
    kept-same (sides_followed place o old.made.items) _ (old.waiting.items ++ record { stan = o.key.stan; at = at } ∷ []) _ at _
    (with_items_is old.made c.put_follower.new.sides (c.put_follower.auto.sides ∙ c.deref_mut.ensures.len)
    ∙ c.put_follower.ensures ∙ ap (sides_followed place o) c.deref_mut.ensures.value)
    (c.wait.ensures ∙ ap (λ (l : List Due). l ++ record { stan = c.key.result.stan; at = at } ∷ []) c.in_ok-reserve.ensures.items
    ∙ ap (λ k. old.waiting.items ++ record { stan = k; at = at } ∷ []) (ap (λ k. k.stan) c.key.ensures.value))
    (sym c.moment_after-at.ensures)
    (kept-followed c.who_waits.ensures.who c.who_waits.ensures.in_time old.made.items old.waiting.items (moment_after old.clock old.patience) at c.args.kind d place o b
    (omega (arith, c.moment_after-at.ensures, c.max-self.ensures)) follows)
