use Rattle.iso_parts.proofs.Highest.{highest_first, highest_second}
use Rattle.iso_parts.proofs.bitmap.Bitmap.highest.Goals as goal

pub returns-then-self-ne0 : goal.returns-then-self-ne0
returns-then-self-ne0 c = highest_second c.args.self.now c.if-self-ne0.true

pub returns-then-self-ne0-2 : goal.returns-then-self-ne0-2
returns-then-self-ne0-2 c = highest_first c.args.self.now c.if-self-ne0.false c.if-self-ne0-2.true
