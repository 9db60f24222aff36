use Rattle.std.proofs.Common.{rules, sym, ◌∙◌}
use Rattle.std.specs.Prelude.{◌==◌, not}
use Rattle.std.proofs.lemmas.Fn.{filter_same}
use Rattle.iso_waits.specs.declared.due.Due.{Due}
use Rattle.iso_waits.proofs.Waits.{without-none}
use Rattle.iso_waits.proofs.due.leave_out.Goals as goal

pub returns-then-waits : goal.returns-then-waits
returns-then-waits c =
    filter_same _ (λ (d : Due). not (d.stan == c.args.stan)) _ (λ x b f' k. search rules) _ _ c.retain.ensures.filtered ∙ c.leave_first.ensures

pub returns-else-waits : goal.returns-else-waits
returns-else-waits c =
    sym (without-none c.args.stan c.leave_first.new.waiting.items (sym c.waits.ensures ∙ c.if-waits.false)) ∙ c.leave_first.ensures
