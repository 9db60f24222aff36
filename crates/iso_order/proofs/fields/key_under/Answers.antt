-- The key has the date and time, the trace number and the acquirer of the message.
use Rattle.std.proofs.Common.{rules}
use Rattle.iso_order.proofs.fields.key_under.Goals as goal

pub returns-clause-value : goal.returns-clause-value
returns-clause-value c = search rules
