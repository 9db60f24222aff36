-- A number behind the holds' and below the completions' end is a completion's.
use Rattle.std.proofs.Common.{rules}
use Rattle.iso_mix.proofs.mix.Mix.kind_of.Goals as goal

pub returns-then-draw-completions : goal.returns-then-draw-completions
returns-then-draw-completions c = search rules
