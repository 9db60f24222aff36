use Rattle.iso_diary.proofs.Written.{blanks_put}
use Rattle.iso_diary.proofs.putting.put_blanks.Goals as goal

pub returns : goal.returns
returns c = blanks_put c.args.at c.args.len c.args.bytes.now c.put.new.bytes c.requires.few c.put.ensures
