use Rattle.std.proofs.Common.{◌∙◌, subst}
use Rattle.iso_table.specs.Layout.{AreGood, Layout}
use Rattle.iso_script.proofs.scripted.answer_body.Goals as goal

pub treat-requires-clause-spelled : goal.treat-requires-clause-spelled
treat-requires-clause-spelled c =
    let good = subst (λ (t : Layout). AreGood t.rows) (c.table-2.ensures.table ∙ c.table.ensures.table) c.version-version.ensures.good in
    let read = rw c.if-not-branch.false at c.in_ok-read_whole.ensures in (
      c.args.body.now,
      (c.bodies_are_spellings.ensures c.args.link.now.table c.read_whole.new.request c.args.body.now good c.are_bytes.ensures).0 read,
    )
