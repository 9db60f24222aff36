use Rattle.std.proofs.Common.{◌≡◌, ◌-◌, ◌^◌, ◌∙◌, ℕ, arith, ap}
use Rattle.std.proofs.lemmas.Nat.{leading_top, one_shl}
use lib.Count.{count_leading_zeros}
use Rattle.iso_parts.proofs.bits.take_bit.Goals as goal

pub overflow_sub-result : goal.overflow_sub-result
overflow_sub-result c = let top = leading_top 64 c.args.word (omega (arith, c.requires)) c.ranges.word.fits in omega (arith, top.1)

pub overflow_sub-result-2 : goal.overflow_sub-result-2
overflow_sub-result-2 c =
    let top = leading_top 64 c.args.word (omega (arith, c.requires)) c.ranges.word.fits in
    let place : 63 - count_leading_zeros 64 c.args.word ≡ top.0 = omega (arith, top.1) in
    let shifted = one_shl (63 - count_leading_zeros 64 c.args.word) 64 (omega arith) ∙ ap (λ (k : ℕ). 2 ^ k) place in
    omega (arith, shifted, top.2)

pub returns : goal.returns
returns c =
    let top = leading_top 64 c.args.word (omega (arith, c.requires)) c.ranges.word.fits in
    let place : 63 - count_leading_zeros 64 c.args.word ≡ top.0 = omega (arith, top.1) in
    let shifted = one_shl (63 - count_leading_zeros 64 c.args.word) 64 (omega arith) ∙ ap (λ (k : ℕ). 2 ^ k) place in
    (top.0, top.1, top.2, top.3, ap (λ (k : ℕ). c.args.word - k) shifted)
