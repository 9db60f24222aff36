-- The batch stands at the next place, or it stays with the log to be sent again.
use Rattle.std.proofs.Common.{rules}
use Rattle.iso_shared.proofs.log.SharedLog.send.Goals as goal

pub returns-in_err-settle-clause-stays : goal.returns-in_err-settle-clause-stays
returns-in_err-settle-clause-stays c = search rules

pub returns-clause-sends : goal.returns-clause-sends
returns-clause-sends c = search rules
