-- It tells exactly the elements that one message lacks or has with another value.
use Rattle.std.proofs.Common.{rules}
use Rattle.iso_compare.proofs.difference.differing.Goals as goal

pub returns : goal.returns
returns c = search rules
