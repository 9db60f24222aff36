use Rattle.std.proofs.Common.{Bool, not, ap}
use Rattle.iso_jobs.proofs.encoding.close.Goals as goal

pub returns : goal.returns
returns g c = record {
  last = c.take_text.new.pages;
  takes = c.in_ok-take_text.ensures;
  written = c.in_ok-write.ensures.written;
  all_good = ap (λ (refused : Bool). not refused) c.write.ensures.same;
}
