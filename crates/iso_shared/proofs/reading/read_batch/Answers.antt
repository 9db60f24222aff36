use Rattle.iso_shared.specs.Read.{filed_of}
use Rattle.iso_shared.proofs.reading.read_batch.Goals as goal

pub returns-in-Ok-clause-only : goal.returns-in-Ok-clause-only
returns-in-Ok-clause-only c = c.batches_come_back.ensures.only c.args.text.now (filed_of c.in-Ok.batch) c.in-Ok.ensures.value
