use Rattle.std.proofs.Common.{ap, ◌∙◌}
use Rattle.std.specs.Prelude.{option_map}
use Rattle.iso_issuer.specs.declared.journal.Entry.{Entry}
use Rattle.iso_issuer.proofs.issuer.Issuer.answer_of_entry.Goals as goal

pub returns-in_err-entry : goal.returns-in_err-entry
returns-in_err-entry c =
    rw (← c.self.view_is, ← c.self.invariant.0.decided) (c.from_residual.ensures ∙ ap (option_map (λ (e : Entry). e.answer)) c.in_err-entry.ensures)

pub returns : goal.returns
returns c =
    rw (← c.self.view_is, ← c.self.invariant.0.decided) (ap (option_map (λ (e : Entry). e.answer)) c.in_ok-entry.ensures)
