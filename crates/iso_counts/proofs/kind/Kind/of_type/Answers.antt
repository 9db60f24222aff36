-- Any class or function beside those of the other kinds is of the kind Other.
use Rattle.std.proofs.Common.{rules}
use Rattle.iso_counts.proofs.kind.Kind.of_type.Goals as goal

pub returns-in_default : goal.returns-in_default
returns-in_default c = search rules
