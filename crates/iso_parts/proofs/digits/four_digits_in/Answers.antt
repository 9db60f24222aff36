-- Two BCD bytes are the number of their four characters, where these are digits.
use Rattle.std.proofs.Common.{rules}
use Rattle.iso_parts.proofs.digits.four_digits_in.Goals as goal

pub returns-in-Bcd-len2 : goal.returns-in-Bcd-len2
returns-in-Bcd-len2 c = search rules
