-- The number is the sum of the four digits, each at its power of ten.
use Rattle.std.proofs.Common.{◌≡◌, ◌+◌, ◌*◌, arith}
use Rattle.iso_parts.specs.Mti.{mti_number}
use Rattle.iso_parts.proofs.mti.Mti.number.Goals as goal

pub returns : goal.returns
returns c =
    let m = c.args.self.now in
    let sum : m.version * 1000 + m.class * 100 + m.function * 10 + m.origin ≡ mti_number m = omega arith in
    sum
