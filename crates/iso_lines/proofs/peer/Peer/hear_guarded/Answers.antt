use Rattle.std.proofs.Common.{subst}
use Rattle.iso_issuer.specs.Books.{Books}
use Rattle.iso_host.specs.Entering.{StaysWithout}
use Rattle.iso_lines.proofs.Heard.{allowed_heard}
use Rattle.iso_lines.proofs.peer.Peer.hear_guarded.Goals as goal

pub returns-clause-heard : goal.returns-clause-heard
returns-clause-heard g c =
    allowed_heard _ _ c.args.host.now.host c.take_all-taken.new.host.host c.one_journal.ensures.more
    (subst (λ (b : Books). StaysWithout b) c.issuer.ensures c.one_journal.ensures.none) c.take_all-taken.ensures.allowed
