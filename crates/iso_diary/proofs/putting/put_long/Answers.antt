use Rattle.iso_diary.proofs.Written.{long_put}
use Rattle.iso_diary.proofs.putting.put_long.Goals as goal

pub returns : goal.returns
returns c = long_put c.args.v c.args.at c.args.bytes.now c.put_number.new.bytes c.put_number-2.new.bytes c.put_number.ensures c.put_number-2.ensures
