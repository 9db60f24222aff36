use Rattle.std.proofs.Common.{◌≡◌, arith, ap, sym, ◌∙◌}
use Rattle.iso_mix.specs.Asked.{asked_at, sides_answered}
use Rattle.iso_mix.specs.Hearing.{hearing_of}
use Rattle.iso_mix.specs.declared.hearing.Hearing.TheVariants.{First, Foreign}
use Rattle.iso_waits.specs.Waits.{moment_after, without}
use Rattle.iso_mix.proofs.Kept.{kept-same, kept-heard, foreign-none}
use Rattle.iso_mix.proofs.sides.Sides.hear.Goals as goal

pub returns-in_ok-take-in-First-clause-kept : goal.returns-in_ok-take-in-First-clause-kept
returns-in_ok-take-in-First-clause-kept c = λ b.
    let old = c.args.self.now in
    let key = c.args.told.now.key in
    let code = c.args.told.now.code in
    let last = moment_after old.clock old.patience in
    let first : hearing_of (asked_at old.made.items key.stan) key code ≡ First =
    ap (λ l. hearing_of (asked_at l key.stan) key code) (sym c.deref.ensures.value)
    ∙ ap (λ a. hearing_of a key code) (sym c.asked_at-asked.ensures) ∙ sym c.hearing_of-hearing.ensures ∙ c.in-First.is in
    kept-same (sides_answered key.stan code old.made.items) _ (without key.stan old.waiting.items) _ last _
    c.in_ok-take-in-First.ensures.sides c.in_ok-take-in-First.ensures.waiting
    (omega (arith, c.in_ok-take-in-First.ensures.clock, c.in_ok-take-in-First.ensures.patience))
    (kept-heard c.who_waits.ensures.who c.who_waits.ensures.in_time old.made.items old.waiting.items last key code b first)

pub returns-in-Foreign-clause-foreign : goal.returns-in-Foreign-clause-foreign
returns-in-Foreign-clause-foreign c = λ is b.
    let old = c.args.self.now in
    let key = c.args.told.now.key in
    let code = c.args.told.now.code in
    let foreign : hearing_of (asked_at old.made.items key.stan) key code ≡ Foreign =
    ap (λ l. hearing_of (asked_at l key.stan) key code) (sym c.deref.ensures.value)
    ∙ ap (λ a. hearing_of a key code) (sym c.asked_at-asked.ensures) ∙ sym c.hearing_of-hearing.ensures ∙ c.in-Foreign.is in
    foreign-none old.made.items old.waiting.items (moment_after old.clock old.patience) key code b foreign
