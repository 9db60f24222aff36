use Rattle.std.proofs.Common.{◌≡◌, ◌<◌, ◌≤◌, ◌^◌, sym, arith}
use Rattle.std.proofs.Math.Nat.{div-eq_of_lt}
use Rattle.iso_front.proofs.Meetings.{step-pos}
use Rattle.iso_front.proofs.prefixes.without_last.Goals as goal

pub nonzero_div-result : goal.nonzero_div-result
nonzero_div-result c = omega (arith, c.in-Some.ensures, step-pos c.from.result)

-- a number is nothing without more digits than it has
pub returns-in-None : goal.returns-in-None
returns-in-None c =
    let most : ¬ (10 ^ c.from.result < 2 ^ 64) = rw c.in-None.is at c.checked_pow.ensures in
    let room : 2 ^ 64 ≤ 10 ^ c.from.result = omega (arith, most) in
    let same : c.from.result ≡ c.args.last = c.from.ensures in
    let above : 2 ^ 64 ≤ 10 ^ c.args.last = rw same at room in
    sym (div-eq_of_lt (omega (arith, above, c.ranges.number.fits)))
