-- Exactly the transactions that wait on the board are open.
use Rattle.std.proofs.Common.{rules}
use Rattle.iso_drive.proofs.driver.Driver.open.Goals as goal

pub returns : goal.returns
returns c = search rules
