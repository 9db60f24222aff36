use Rattle.std.proofs.Common.{subst}
use Rattle.iso_issuer.specs.Books.{Books}
use Rattle.iso_host.specs.Entering.{StaysWithout}
use Rattle.iso_peers.proofs.Pieces.{HostLaws, piece_laws}
use Rattle.iso_peers.proofs.laws.piece_by_piece.Goals as goal

pub returns : goal.returns
returns c =
    let laws : HostLaws = record {
      frames = c.frames.ensures;
      splits = c.splits_once.ensures.some;
      alone = c.one_journal.ensures.alone;
      go_on = c.one_journal.ensures.more;
      no_output = c.output_goes_on.ensures.none;
      output = c.output_goes_on.ensures.more;
    } in
    piece_laws laws c.args.host.now (subst (λ (b : Books). StaysWithout b) c.issuer.ensures c.one_journal.ensures.none)
