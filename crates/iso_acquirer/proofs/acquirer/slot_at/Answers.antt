use Rattle.std.proofs.Common.{arith, sym, ◌∙◌, ◌-◌}
use Rattle.iso_acquirer.proofs.Numbered.{below, placed, found_own}
use Rattle.iso_acquirer.proofs.acquirer.slot_at.Goals as goal

pub returns-then-stan-eq0-clause-value : goal.returns-then-stan-eq0-clause-value
returns-then-stan-eq0-clause-value c = sym (below c.args.slots.now 1 c.args.stan c.requires (omega (arith, c.if-stan-eq0.true)))

pub returns-clause-value : goal.returns-clause-value
returns-clause-value c = c.slot_in.ensures ∙ sym (placed c.args.slots.now 1 (c.args.stan - 1) c.args.stan c.requires (omega (arith, c.if-stan-eq0.false)))

pub returns-clause-there : goal.returns-clause-there
returns-clause-there c =
    found_own c.args.slots.now c.args.stan c.requires c.slot_in.result (c.slot_in.ensures ∙ sym (placed c.args.slots.now 1 (c.args.stan - 1) c.args.stan c.requires (omega (arith, c.if-stan-eq0.false))))
