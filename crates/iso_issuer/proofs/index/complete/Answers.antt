use Rattle.std.proofs.Common.{ap, ◌+◌}
use Rattle.iso_issuer.proofs.Counts.{count-more}
use Rattle.iso_issuer.proofs.index.complete.Goals as goal

pub returns-clause-ok : goal.returns-clause-ok
returns-clause-ok c =
    count-more c.args.counts.now c.insert.new.self c.args.hold (c.hold_count-count.result + 1) c.in_ok-insert.ensures.updates.0 (ap (λ n. n + 1) c.hold_count-count.ensures)
