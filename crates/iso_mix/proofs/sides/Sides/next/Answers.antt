use Rattle.std.proofs.Common.{refl, arith, sym}
use Rattle.iso_waits.specs.Waits.{moment_after, put_off}
use Rattle.iso_mix.proofs.Kept.{kept-same, kept-later, kept-again}
use Rattle.iso_mix.proofs.sides.Sides.next.Goals as goal

pub returns-clause-kept : goal.returns-clause-kept
returns-clause-kept c = λ b.
    let old = c.args.self.now in
    let at = c.moment_after-at.result in
    let who = c.who_waits.ensures.who in
    let time = c.who_waits.ensures.in_time in
    kept-same old.made.items _ (put_off at old.waiting.items) _ at _ refl c.put_off.ensures (sym c.moment_after-at.ensures)
    (kept-again who time old.made.items old.waiting.items at
    (kept-later who time old.made.items old.waiting.items (moment_after old.clock old.patience) at (omega (arith, c.moment_after-at.ensures, c.max-self.ensures)) b))
