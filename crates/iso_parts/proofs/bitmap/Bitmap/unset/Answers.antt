use Rattle.std.proofs.Common.{◌≡◌, ◌≢◌, ◌-◌, ℕ, arith}
use Rattle.std.specs.Int.{bit_at}
use Rattle.std.proofs.lemmas.Grind.{common_steps}
use Rattle.iso_parts.proofs.bitmap.Bitmap.unset.Goals as goal

pub invariant_of-self : goal.invariant_of-self
invariant_of-self c = record { not_1 = omega (arith, c.without_bit-self.ensures.below, c.args.self.now.not_1); not_65 = c.args.self.now.not_65 }

pub invariant_of-self-else-n-le64 : goal.invariant_of-self-else-n-le64
invariant_of-self-else-n-le64 c = record { not_1 = c.args.self.now.not_1; not_65 = omega (arith, c.without_bit-self-else-n-le64.ensures.below, c.args.self.now.not_65) }

pub returns-else-n-le64-clause-removed : goal.returns-else-n-le64-clause-removed
returns-else-n-le64-clause-removed c =
    let bit : bit_at c.without_bit-self-else-n-le64.result (128 - c.args.n) ≡ 0 = c.without_bit-self-else-n-le64.ensures.removed in
    grind (arith, common_steps)

pub returns-else-n-le64-clause-others : goal.returns-else-n-le64-clause-others
returns-else-n-le64-clause-others c =
    let kept : (i : ℕ) → i ≢ 128 - c.args.n → bit_at c.without_bit-self-else-n-le64.result i ≡ bit_at c.args.self.now.secondary i = c.without_bit-self-else-n-le64.ensures.others in
    grind (arith, common_steps)
