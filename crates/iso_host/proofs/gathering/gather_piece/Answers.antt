use Rattle.std.proofs.Common.{List, ℕ, sym, subst}
use Rattle.iso_host.specs.Gathering.{IsGathered}
use Rattle.iso_host.proofs.GatherLemmas.{more_fed}
use Rattle.iso_host.proofs.gathering.gather_piece.Goals as goal

pub returns-in-Ok-clause-gathered : goal.returns-in-Ok-clause-gathered
returns-in-Ok-clause-gathered c =
    let e = c.in-Ok.ensures in
    let before = rw c.in-None.is at c.requires.gathered in
    subst (λ (l : List ℕ). IsGathered c.feed_piece.new.unpacker l c.in-Ok.told) (sym c.then-in-Ok.ensures)
    (more_fed c.args.unpacker.now c.feed_piece.new.unpacker c.args.seen.now.bytes c.args.piece.now c.in-Ok.told before e.table c.are_bytes.ensures e.holds)
