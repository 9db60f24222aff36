use Rattle.iso_script.proofs.Unread.{read_by_none}
use Rattle.iso_script.proofs.laws.garbage_is_no_message.Goals as goal

pub returns : goal.returns
returns c = read_by_none
