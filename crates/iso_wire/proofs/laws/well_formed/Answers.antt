use Rattle.std.proofs.Common.{◌<◌, ℕ, subst, arith}
use Rattle.iso_parts.specs.Mti.{mti_number}
use Rattle.iso_parts.specs.Numbers.{members}
use Rattle.iso_wire.specs.OneSpelling.{AreOfBytes}
use Rattle.iso_wire.proofs.laws.well_formed.Goals as goal

pub returns : goal.returns
returns c =
    let type = c.mti-mti.result in
    let kept = c.parts-elements.result.now in
    let small : mti_number type < 10000 = omega (arith, type.version_digit, type.class_digit, type.function_digit, type.origin_digit) in
    record {
      mti = subst (λ (n : ℕ). n < 10000) c.mti-mti.ensures small;
      ascending = c.parts-elements.ensures.ascending;
      bytes = subst AreOfBytes c.parts-elements.ensures.elements (rw c.deref.ensures.value at (c.of_bytes.ensures (members kept.numbers) kept.ends.items));
    }
