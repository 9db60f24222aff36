use Rattle.iso_peers.proofs.Outlive.{handed_stands}
use Rattle.iso_peers.proofs.laws.handed_out_stands.Goals as goal

pub returns : goal.returns
returns c = handed_stands c.answers_outlive_crashes.ensures.told
