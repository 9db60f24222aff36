use Rattle.iso_wire.proofs.PlainLaws.{has_plain, plain_once}
use Rattle.iso_wire.proofs.laws.spelled_once.Goals as goal

pub returns-clause-some : goal.returns-clause-some
returns-clause-some c = has_plain c.parts.ensures c.bitmaps.ensures

pub returns-clause-once : goal.returns-clause-once
returns-clause-once c = plain_once c.bitmaps.ensures
