use Rattle.std.proofs.Common.{sym, ◌∙◌}
use Rattle.iso_waits.proofs.Waits.{without-first}
use Rattle.iso_waits.proofs.due.leave_first.Goals as goal

pub returns-then-is_first : goal.returns-then-is_first
returns-then-is_first c =
    without-first c.args.stan c.args.waiting.now.items c.pop_front.new.self.items c.pop_front.result c.pop_front.ensures.items (sym c.is_first.ensures ∙ c.if-is_first.true)
