use Rattle.iso_host.proofs.GatherLemmas.{reads_lost}
use Rattle.iso_host.proofs.gathering.Gathering.read.Goals as goal

pub returns-in-Some-clause-read : goal.returns-in-Some-clause-read
returns-in-Some-clause-read c =
    let known = rw c.in-Some.is at c.self.invariant in
    rw (← c.self.view_is) (reads_lost c.self.inside.unpacker c.self.inside.seen.bytes c.args.piece.now c.args.request.now c.in-Some.fault known c.requires.some)
