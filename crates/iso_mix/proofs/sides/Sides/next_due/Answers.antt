use Rattle.iso_mix.proofs.sides.Sides.next_due.Goals as goal

pub returns-in-Some-clause-none_before : goal.returns-in-Some-clause-none_before
returns-in-Some-clause-none_before c = λ b. c.who_waits.ensures.in_time.first c.args.self.now.waiting.items c.in-Some.first c.in-Some.ensures b.in_time.in_order
