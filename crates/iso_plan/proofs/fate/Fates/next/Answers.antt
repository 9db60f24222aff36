use Rattle.std.proofs.Common.{◌≡◌, ◌∙◌, sym, ap, subst}
use Rattle.rand_pcg.specs.Lcg.{Lcg}
use Rattle.iso_plan.specs.declared.fate.Fate.{Fate}
use Rattle.iso_plan.specs.declared.plan.Faults.{Faults}
use Rattle.iso_plan.specs.Fate.{Drawing, comes_at, fate_at, IsFateUnder}
use Rattle.iso_plan.proofs.Fated.{fate-drawn}
use Rattle.iso_plan.proofs.fate.Fates.next.Goals as goal

pub returns-clause-drawn : goal.returns-clause-drawn
returns-clause-drawn c =
    let faults : Faults = c.self.inside.faults in
    let fate : Fate = record { comes = c.coming-comes.result; cuts = c.happens-cuts.result } in
    subst (λ (d : Drawing). fate ≡ fate_at d) c.self.view_is
    (sym (fate-drawn c.self.inside.generator faults c.coming-comes.result c.happens-cuts.result
    (sym c.is_none.ensures ∙ c.if-is_none.false)
    (c.coming-comes.ensures.drawn ∙ ap (λ (g : Lcg). comes_at faults g) c.happens-cuts.ensures.next)
    c.happens-cuts.ensures.drawn))

pub returns-clause-fate : goal.returns-clause-fate
returns-clause-fate c =
    let fate : Fate = record { comes = c.coming-comes.result; cuts = c.happens-cuts.result } in
    subst (λ (d : Drawing). IsFateUnder d.faults fate) c.self.view_is
    (record {
      lost = c.coming-comes.ensures.lost;
      twice = c.coming-comes.ensures.twice;
      cut = c.happens-cuts.ensures.sure;
      delays = c.coming-comes.ensures.delays;
    })
