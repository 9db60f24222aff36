-- A number up to 64 is in the set where its bit of the primary word is set.
use Rattle.std.proofs.Common.{◌≡◌, ◌-◌, ◌/◌, ◌^◌, ◌==◌, arith}
use Rattle.std.specs.Int.Bits.{bit_and}
use Rattle.std.proofs.lemmas.Grind.{common_steps}
use Rattle.iso_parts.specs.Bitmap.{contains}
use Rattle.iso_parts.proofs.bitmap.Bitmap.has.Goals as goal

pub returns-in-1-to-64-clause-has : goal.returns-in-1-to-64-clause-has
returns-in-1-to-64-clause-has c =
    let set = c.args.self.now in
    let bit : (bit_and (set.primary / 2 ^ (64 - c.args.n)) 1 == 1) ≡ contains set c.args.n = grind (arith, common_steps) in
    bit
