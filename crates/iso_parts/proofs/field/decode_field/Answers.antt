use Rattle.std.proofs.Common.{subst, ap, ◌∙◌, arith}
use Rattle.iso_parts.specs.Reading.{Reads, part_at, FieldReading}
use Rattle.iso_parts.proofs.Parts.{part_again, one_part}
use Rattle.iso_parts.proofs.PartStops.{step_stops, missing_again, refused_again}
use Rattle.iso_parts.proofs.Takes.{is_found}
use Rattle.iso_parts.proofs.field.decode_field.Goals as goal

pub returns-clause-found : goal.returns-clause-found
returns-clause-found c = is_found c.args.spec.now c.args.bytes.now c.step_of.result c.requires (λ i. omega (arith, c.type_inv.bytes i)) c.step_of.ensures

pub returns-clause-only : goal.returns-clause-only
returns-clause-only c = λ value part rest is_part split. subst (λ (o : FieldReading). Reads c.step_of.result o) (ap (part_at c.args.spec.now) split ∙ part_again c.args.spec.now value part rest c.requires is_part) c.step_of.ensures

pub returns-clause-stops : goal.returns-clause-stops
returns-clause-stops c = step_stops c.args.spec.now c.args.bytes.now c.step_of.result c.requires (λ i. omega (arith, c.type_inv.bytes i)) c.step_of.ensures

pub returns-clause-more : goal.returns-clause-more
returns-clause-more c = λ ends. subst (λ (o : FieldReading). Reads c.step_of.result o) (missing_again c.args.spec.now c.args.bytes.now c.requires (λ i. omega (arith, c.type_inv.bytes i)) ends) c.step_of.ensures

pub returns-clause-told : goal.returns-clause-told
returns-clause-told c = λ e bad. subst (λ (o : FieldReading). Reads c.step_of.result o) (refused_again c.args.spec.now c.args.bytes.now e c.requires (λ i. omega (arith, c.type_inv.bytes i)) bad) c.step_of.ensures

pub returns-clause-one_part : goal.returns-clause-one_part
returns-clause-one_part c = one_part c.args.spec.now c.requires
