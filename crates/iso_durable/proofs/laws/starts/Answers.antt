use Rattle.iso_durable.proofs.Distinct.{start_front, distinct_at}
use Rattle.iso_durable.proofs.laws.starts.Goals as goal

pub returns : goal.returns
returns c = record {
  front = start_front;
  new = λ limit before after o start. distinct_at before after o start.once;
}
