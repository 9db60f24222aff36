use Rattle.std.proofs.Common.{arith}
use Rattle.rumpadol_batches.proofs.Joined.{part_is}
use Rattle.rumpadol_batches.proofs.batches.part_at.Goals as goal

pub returns : goal.returns
returns c =
    part_is c.min.result c.min-2.result c.args.before c.args.records.now
    (omega (arith, c.min.ensures, c.saturating_mul.ensures)) c.min-2.ensures
