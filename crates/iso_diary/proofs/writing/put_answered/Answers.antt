use Rattle.std.proofs.Common.{refl, take}
use Rattle.iso_diary.proofs.Written.{answered_put}
use Rattle.iso_diary.proofs.writing.put_answered.Goals as goal

pub returns-clause-bytes : goal.returns-clause-bytes
returns-clause-bytes c =
    answered_put c.args.key c.args.code (take 0 c.args.bytes.now) (take 5 c.put_number.new.bytes) (take 15 c.put_number-2.new.bytes) (take 35 c.put_long.new.bytes) (take 55 c.put_long-2.new.bytes) (take 58 c.put_number-3.new.bytes)
    (take 99 c.put_blanks.new.bytes) refl c.put_number.ensures c.put_number-2.ensures c.put_long.ensures c.put_long-2.ensures c.put_number-3.ensures c.put_blanks.ensures
