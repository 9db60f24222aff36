-- The first bit is set exactly where the word is at least 2^63.
use Rattle.std.proofs.Common.{rules, ◌≡◌, ◌<◌, false, nat_le, refl}
use Rattle.iso_parts.specs.BitmapReading.{top}
use Rattle.iso_parts.proofs.bits.tells_another.Goals as goal

pub returns-clause-exact : goal.returns-clause-exact
returns-clause-exact c = refl

pub returns-clause-low : goal.returns-clause-low
returns-clause-low c = let low : nat_le top c.args.word ≡ false → c.args.word < top = search rules in low
