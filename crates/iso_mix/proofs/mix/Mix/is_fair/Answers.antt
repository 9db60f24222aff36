-- A mix is fair where its four kinds together are at most a hundred.
use Rattle.std.proofs.Common.{rules}
use Rattle.iso_mix.proofs.mix.Mix.is_fair.Goals as goal

pub returns : goal.returns
returns c = search rules
