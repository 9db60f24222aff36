-- The text is that of the member, where it is there and a text.
use Rattle.std.proofs.Common.{rules}
use Rattle.iso_table.proofs.members.text_at.Goals as goal

pub returns : goal.returns
returns c = search rules
