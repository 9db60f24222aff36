use Rattle.iso_mix.proofs.Shares.{shares}
use Rattle.iso_mix.proofs.laws.shares_are_kept.Goals as goal

pub returns : goal.returns
returns c = shares
