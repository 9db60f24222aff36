use Rattle.iso_waits.specs.Waits.{moment_after}
use Rattle.iso_mix.proofs.Kept.{none-open, none-left}
use Rattle.iso_mix.proofs.sides.Sides.is_closed.Goals as goal

pub returns-clause-closed : goal.returns-clause-closed
returns-clause-closed c = λ b.
    let self = c.args.self.now in
    let last = moment_after self.clock self.patience in
    let who = c.who_waits.ensures.who in
    (λ h. none-open who self.made.items self.waiting.items last b (c.is_empty.ensures.0 h), λ all. c.is_empty.ensures.1 (none-left who self.made.items self.waiting.items last b all))
