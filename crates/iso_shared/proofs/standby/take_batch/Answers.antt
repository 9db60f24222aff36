use Rattle.std.proofs.Common.{subst}
use Rattle.iso_shared.specs.Read.{filed_of}
use Rattle.iso_shared.specs.Written.{AreWritten}
use Rattle.iso_shared.proofs.standby.take_batch.Goals as goal

pub returns-in-Ok-take_rows-clause-next : goal.returns-in-Ok-take_rows-clause-next
returns-in-Ok-take_rows-clause-next c = λ good.
    let old = c.args.issuer.now in
    record {
      batch = filed_of c.in-Ok.batch;
      is = c.in-Ok.ensures.value;
      here = c.if-batch-place.false;
      rows = subst (AreWritten old.accounts old.limit old.orders) c.deref.ensures.value (c.in-Ok-take_rows.ensures.written good);
    }
