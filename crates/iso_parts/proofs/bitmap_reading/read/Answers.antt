use Rattle.std.proofs.Common.{rules}
use Rattle.iso_parts.proofs.bitmap_reading.read.Goals as goal

pub returns-then-not-tells_another : goal.returns-then-not-tells_another
returns-then-not-tells_another c = let set = c.from_words-bits.ensures.set (c.tells_another.ensures.low c.if-not-tells_another.true) in search rules
