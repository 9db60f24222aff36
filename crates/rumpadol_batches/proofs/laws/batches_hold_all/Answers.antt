use Rattle.rumpadol_batches.proofs.Joined.{all_joined}
use Rattle.rumpadol_batches.proofs.laws.batches_hold_all.Goals as goal

pub returns : goal.returns
returns c = all_joined
