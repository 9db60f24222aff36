-- Of all bytes but digits, letters, '-' and '_' only '.' may be in a name.
use Rattle.std.proofs.Common.{rules}
use Rattle.iso_etcd.proofs.name.is_name_byte.Goals as goal

pub returns-else-byte-eq95 : goal.returns-else-byte-eq95
returns-else-byte-eq95 c = search rules
