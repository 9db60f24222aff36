use Rattle.std.proofs.Common.{refl}
use Rattle.iso_lines.proofs.Reading.{read_over}
use Rattle.iso_lines.proofs.peer.Peer.read.Goals as goal

pub returns-in-Over-clause-came : goal.returns-in-Over-clause-came
returns-in-Over-clause-came g c =
    λ none key. read_over g.S.Read.remaining key c.args.self.now _ c.hear_end.new.self c.args.host.now.host (refl, refl, refl) refl c.in-Over.ensures
    c.hear_end.ensures.bytes none c.hear_end.ensures.ended

pub returns-in-Failed-clause-came : goal.returns-in-Failed-clause-came
returns-in-Failed-clause-came g c =
    λ none key. read_over g.S.Read.remaining key c.args.self.now _ c.fail.new.self c.args.host.now.host (refl, refl, refl) refl c.in-Failed.ensures
    c.fail.ensures.bytes none c.fail.ensures.over
