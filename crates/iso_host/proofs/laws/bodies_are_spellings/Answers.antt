use Rattle.iso_host.proofs.BodyLemmas.{bodies_spelled}
use Rattle.iso_host.proofs.laws.bodies_are_spellings.Goals as goal

pub returns : goal.returns
returns c = bodies_spelled c.reads_spellings.ensures.exact
