use Rattle.std.proofs.Common.{take}
use Rattle.iso_diary.proofs.Written.{tail_put}
use Rattle.iso_diary.proofs.writing.put_tail.Goals as goal

pub returns : goal.returns
returns c = tail_put c.args.letter c.args.place (take 99 c.args.bytes.now) (take 100 c.put.new.bytes) (take 120 c.put_long.new.bytes) (take 127 c.put_blanks.new.bytes) (take 128 c.put-2.new.bytes)
    c.put.ensures c.put_long.ensures c.put_blanks.ensures c.put-2.ensures
