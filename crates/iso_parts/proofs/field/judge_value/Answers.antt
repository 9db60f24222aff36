-- A value that isn't refused fits, and its plain part is a part of it.
use Rattle.std.proofs.Common.{sym, ◌∙◌, arith}
use Rattle.iso_parts.proofs.Plain.{plain_is_part, fits_from_refusal}
use Rattle.iso_parts.proofs.field.judge_value.Goals as goal

pub returns-clause-fits : goal.returns-clause-fits
returns-clause-fits c = λ none. fits_from_refusal c.args.spec.now c.args.value.now (sym c.refusal.ensures ∙ none)

pub returns-clause-spelled : goal.returns-clause-spelled
returns-clause-spelled c = λ none.
    let s = c.args.spec.now in
    let v = c.args.value.now in
    plain_is_part s v c.requires (fits_from_refusal s v (sym c.refusal.ensures ∙ none)) (λ i. omega (arith, c.type_inv.value i))
