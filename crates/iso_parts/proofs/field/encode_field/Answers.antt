use Rattle.std.proofs.Common.{rules, ◌≡◌, sym, arith}
use Rattle.iso_parts.proofs.Plain.{plain_is_part, fits_from_refusal}
use Rattle.iso_parts.proofs.field.encode_field.Goals as goal

pub returns-in-Ok-clause-spelled : goal.returns-in-Ok-clause-spelled
returns-in-Ok-clause-spelled c =
    let s = c.args.spec.now in
    let v = c.args.value.now in
    plain_is_part s v c.requires (fits_from_refusal s v (sym c.in_default.ensures)) (λ i. omega (arith, c.type_inv.value i))

pub returns-in-Err-clause-unchanged : goal.returns-in-Err-clause-unchanged
returns-in-Err-clause-unchanged c = let kept : c.truncate.new.self.items ≡ c.args.out.now.items = search rules in kept
