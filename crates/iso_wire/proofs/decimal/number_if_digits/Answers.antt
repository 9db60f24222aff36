use Rattle.std.proofs.Common.{◌≡◌, ◌≤◌, true, get_or, sym, ◌∙◌, arith}
use Rattle.std.proofs.lemmas.Bool.Decides.{nat_tests}
use Rattle.std.proofs.lemmas.Grind.{common_steps}
use Rattle.iso_parts.specs.Class.{is_digit}
use Rattle.iso_wire.proofs.Decimals.{number-more, power-more, power-fits}
use Rattle.iso_wire.proofs.decimal.number_if_digits.Goals as goal

pub overflow_mul-so_far : goal.overflow_mul-so_far
overflow_mul-so_far c =
    let fits = power-fits c.loop-byte.so_far c.loop-byte.byte-index _ c.loop-byte.invariant.below c.loop-byte-test.true c.requires in
    omega arith

pub overflow_add-so_far : goal.overflow_add-so_far
overflow_add-so_far c =
    let fits = power-fits c.loop-byte.so_far c.loop-byte.byte-index _ c.loop-byte.invariant.below c.loop-byte-test.true c.requires in
    let test : is_digit (get_or c.args.text.now c.loop-byte.byte-index 0) ≡ true = sym c.is_digit.ensures ∙ c.if-not-is_digit.false in
    let most : get_or c.args.text.now c.loop-byte.byte-index 0 ≤ 57 = grind (arith, nat_tests) in
    omega arith

pub loop-byte-preserved : goal.loop-byte-preserved
loop-byte-preserved c =
    let test : is_digit (get_or c.args.text.now c.loop-byte.byte-index 0) ≡ true = sym c.is_digit.ensures ∙ c.if-not-is_digit.false in
    let most : get_or c.args.text.now c.loop-byte.byte-index 0 ≤ 57 = grind (arith, nat_tests) in
    let next = number-more c.args.text.now c.loop-byte.byte-index c.loop-byte-test.true in
    let inv = c.loop-byte.invariant in
    record {
      digits = grind (arith, common_steps);
      value = omega (arith, next, inv.value);
      below = power-more c.loop-byte.so_far c.loop-byte.byte-index _ inv.below (omega arith);
    }
