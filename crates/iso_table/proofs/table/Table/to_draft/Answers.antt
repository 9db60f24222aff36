use Rattle.std.proofs.Common.{rules, sym, subst}
use Rattle.iso_table.specs.Layout.{IsAccepted}
use Rattle.iso_table.specs.Accepted.{DraftContents, IsAcceptable, Holds}
use Rattle.iso_table.proofs.DraftLemmas.{draft_accepted, draft_held, held_alone}
use Rattle.iso_table.proofs.table.Table.to_draft.Goals as goal

pub returns-clause-contents : goal.returns-clause-contents
returns-clause-contents c = search rules

pub returns-clause-accepted : goal.returns-clause-accepted
returns-clause-accepted c =
    let t = c.args.self.now in
    let is : IsAccepted t = subst IsAccepted c.self.view_is c.self.invariant in
    subst (λ (d : DraftContents). IsAcceptable d × Holds t d) (sym (returns-clause-contents c)) (draft_accepted t is, draft_held t)

pub returns-clause-again : goal.returns-clause-again
returns-clause-again c =
    let t = c.args.self.now in
    let is : IsAccepted t = subst IsAccepted c.self.view_is c.self.invariant in
    λ u b h. held_alone t is u b (subst (Holds u) (returns-clause-contents c) h)
