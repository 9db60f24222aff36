use Rattle.std.proofs.Common.{ap, ◌∙◌}
use Rattle.std.specs.Prelude.{count_by}
use Rattle.iso_drive.specs.Counts.{is_declined_with, role_is}
use Rattle.iso_drive.proofs.Counted.{counted}
use Rattle.iso_drive.proofs.counts.declined_with.Goals as goal

pub returns : goal.returns
returns c = λ slots t.
    c.with_code.ensures ∙ ap (count_by (λ m. role_is (is_declined_with c.args.code) m.role)) t.same ∙ counted (is_declined_with c.args.code) slots
