use Rattle.std.proofs.Common.{◌<◌, ◌≤◌, ◌^◌, sym, arith}
use Rattle.std.proofs.Math.Nat.{div-eq_of_lt}
use Rattle.std.proofs.Math.Pow.{pow_mono}
use Rattle.iso_links.proofs.number.bits_from.Goals as goal

-- a number of 128 bits is nothing without its last 128
pub returns-in-None : goal.returns-in-None
returns-in-None c =
    let no : ¬ (c.args.behind < 128) = rw c.in-None.is at c.checked_shr.ensures in
    let most : 128 ≤ c.args.behind = omega (arith, no) in
    let room : 2 ^ 128 ≤ 2 ^ c.args.behind = pow_mono most in
    let fits : c.args.bits < 2 ^ 128 = c.ranges.bits.fits in
    sym (div-eq_of_lt (omega (arith, fits, room)))
