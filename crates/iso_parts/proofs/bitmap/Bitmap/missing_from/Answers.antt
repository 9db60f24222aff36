use Rattle.std.proofs.Common.{sym}
use Rattle.iso_parts.specs.Bitmap.{contains}
use Rattle.iso_parts.proofs.NumberLaws.{all_there}
use Rattle.iso_parts.proofs.bitmap.Bitmap.missing_from.Goals as goal

pub returns-then-has_all : goal.returns-then-has_all
returns-then-has_all c = sym (all_there (contains c.args.other.now) (contains c.args.self) 127 2 (c.has_all.ensures.0 c.if-has_all.true))
