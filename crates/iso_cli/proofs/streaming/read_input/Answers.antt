use Rattle.std.proofs.Common.{sym, ◌∙◌}
use Rattle.iso_cli.proofs.StreamingLemmas.{consumed_all, reads_suffice}
use Rattle.iso_cli.proofs.streaming.read_input.Goals as goal

pub returns-in-Ok-clause-bytes : goal.returns-in-Ok-clause-bytes
returns-in-Ok-clause-bytes g c = consumed_all _ _ _ c.in-Ok.ensures.bytes c.in-Ok.ensures.end

pub returns-in-Err-clause-turns : goal.returns-in-Err-clause-turns
returns-in-Err-clause-turns g c = λ is.
    reads_suffice (g.I.Inlet.counts c.args.input.now) (g.I.Inlet.counts c.read_all.new.input) c.in-Err.fault c.in-Err.ensures.cause (sym c.from.ensures ∙ is)
