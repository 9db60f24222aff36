use Rattle.iso_log.proofs.Crash.{count_is}
use Rattle.iso_log.proofs.Behind.{length-behind, all_behind, one_more, some_more}
use Rattle.iso_log.proofs.laws.files.Goals as goal

pub returns : goal.returns
returns c = record {
  counted = count_is;
  fewer = length-behind;
  all = all_behind;
  next = one_more;
  more = some_more;
}
