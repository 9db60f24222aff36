use Rattle.std.proofs.Common.{◌≤◌, ◌+◌, ◌*◌, ℕ, List, length, arith}
use Rattle.iso_parts.specs.declared.spec.FieldSpec.{FieldSpec}
use Rattle.iso_parts.specs.Spec.{Fits}
use Rattle.iso_parts.specs.Part.{with_padding, plain_part}
use Rattle.iso_parts.proofs.Extents.{part_up_to, length_fault, body_fault}
use Rattle.iso_parts.proofs.Parts.{part_again}
use Rattle.iso_parts.proofs.Plain.{fits_from_refusal, plain_is_part, refusal_from_fits}
use Rattle.iso_parts.proofs.Sizes.{padded_most, plain_part_most}
use Rattle.iso_parts.proofs.Stable.{part_stays}
use Rattle.iso_parts.proofs.Takes.{part_takes}
use Rattle.iso_parts.proofs.Texts.{size_again}
use Rattle.iso_parts.proofs.laws.parts.Goals as goal

plain_short : (s : FieldSpec) (v : List ℕ) → Fits s v → length (plain_part s v) ≤ 2 * s.max + 4
plain_short s v fits = omega (arith, plain_part_most s v, padded_most s v fits)

pub returns : goal.returns
returns c = record {
  again = part_again;
  taken = part_takes;
  stays = part_stays;
  fits = λ s v. (refusal_from_fits s v, fits_from_refusal s v);
  plain = plain_is_part;
  short = plain_short;
  most = part_up_to;
  length_fault = length_fault;
  body_fault = body_fault;
  sized = λ s v b body. size_again s.coding b (with_padding s v) body.1;
}
