use Rattle.iso_wire.proofs.Endings.{reading_stays}
use Rattle.iso_wire.proofs.Messages.{reads_spellings}
use Rattle.iso_wire.proofs.laws.reads_spellings.Goals as goal

pub returns-clause-exact : goal.returns-clause-exact
returns-clause-exact c = reads_spellings c.parts.ensures c.bitmaps.ensures

pub returns-clause-stays : goal.returns-clause-stays
returns-clause-stays c = reading_stays c.parts.ensures c.bitmaps.ensures
