use Rattle.std.proofs.Common.{refl, take}
use Rattle.iso_diary.proofs.Written.{trace_put}
use Rattle.iso_diary.proofs.writing.put_trace.Goals as goal

pub returns : goal.returns
returns c = trace_put c.args.stan (take 0 c.args.bytes.now) (take 10 c.put_number.new.bytes) (take 99 c.put_blanks.new.bytes) refl c.put_number.ensures c.put_blanks.ensures
