use Rattle.std.proofs.Common.{arith}
use Rattle.iso_wire.proofs.Decimals.{number-more, digit_at, power-more, power-fits}
use Rattle.iso_wire.proofs.decimal.number.Goals as goal

pub overflow_mul-so_far : goal.overflow_mul-so_far
overflow_mul-so_far c =
    let fits = power-fits c.loop-byte.so_far c.loop-byte.byte-index _ c.loop-byte.invariant.1 c.loop-byte-test.true c.requires.few in
    omega arith

pub overflow_add-so_far : goal.overflow_add-so_far
overflow_add-so_far c =
    let fits = power-fits c.loop-byte.so_far c.loop-byte.byte-index _ c.loop-byte.invariant.1 c.loop-byte-test.true c.requires.few in
    let digit = digit_at c.args.text.now c.loop-byte.byte-index c.requires.digits c.loop-byte-test.true in
    omega arith

pub loop-byte-preserved : goal.loop-byte-preserved
loop-byte-preserved c =
    let digit = digit_at c.args.text.now c.loop-byte.byte-index c.requires.digits c.loop-byte-test.true in
    let next = number-more c.args.text.now c.loop-byte.byte-index c.loop-byte-test.true in (
      omega (arith, next, c.loop-byte.invariant.0),
      power-more c.loop-byte.so_far c.loop-byte.byte-index _ c.loop-byte.invariant.1 (omega arith),
    )
