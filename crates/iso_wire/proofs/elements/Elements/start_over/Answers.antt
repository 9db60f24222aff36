use Rattle.std.proofs.Common.{refl}
use Rattle.iso_wire.proofs.Changes.{whole_same}
use Rattle.iso_wire.proofs.elements.Elements.start_over.Goals as goal

pub returns-in_err-reserve-clause-whole : goal.returns-in_err-reserve-clause-whole
returns-in_err-reserve-clause-whole c = whole_same c.clear.new.self _ (record { numbers = refl; ends = refl; values = c.reserve.ensures.items }) c.clear.ensures.whole

pub returns-in_err-reserve-2-clause-whole : goal.returns-in_err-reserve-2-clause-whole
returns-in_err-reserve-2-clause-whole c = whole_same c.clear.new.self _ (record { numbers = refl; ends = c.reserve-2.ensures.items; values = c.reserve.ensures.items }) c.clear.ensures.whole

pub returns-clause-whole : goal.returns-clause-whole
returns-clause-whole c = whole_same c.clear.new.self _ (record { numbers = refl; ends = c.reserve-2.ensures.items; values = c.reserve.ensures.items }) c.clear.ensures.whole
