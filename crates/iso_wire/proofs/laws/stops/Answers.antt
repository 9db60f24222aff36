use Rattle.iso_wire.proofs.StopsLaws.{spells_or_stops, never_both, stops_once, stops_stay}
use Rattle.iso_wire.proofs.StopsReading.{stops_as_read}
use Rattle.iso_wire.proofs.laws.stops.Goals as goal

pub returns-clause-exact : goal.returns-clause-exact
returns-clause-exact c = stops_as_read c.parts.ensures c.bitmaps.ensures c.pieces.ensures

pub returns-clause-some : goal.returns-clause-some
returns-clause-some c = spells_or_stops c.reads_spellings.ensures.exact c.reads_spellings.ensures.stays (stops_as_read c.parts.ensures c.bitmaps.ensures c.pieces.ensures)

pub returns-clause-either : goal.returns-clause-either
returns-clause-either c = never_both c.reads_spellings.ensures.exact c.reads_spellings.ensures.stays (stops_as_read c.parts.ensures c.bitmaps.ensures c.pieces.ensures)

pub returns-clause-once : goal.returns-clause-once
returns-clause-once c = stops_once c.reads_spellings.ensures.exact c.reads_spellings.ensures.stays (stops_as_read c.parts.ensures c.bitmaps.ensures c.pieces.ensures)

pub returns-clause-stay : goal.returns-clause-stay
returns-clause-stay c = stops_stay c.reads_spellings.ensures.exact c.reads_spellings.ensures.stays (stops_as_read c.parts.ensures c.bitmaps.ensures c.pieces.ensures)
