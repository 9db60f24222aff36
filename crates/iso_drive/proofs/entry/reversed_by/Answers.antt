-- A reversal takes back the transaction that it names.
use Rattle.std.proofs.Common.{rules}
use Rattle.iso_drive.proofs.entry.reversed_by.Goals as goal

pub returns-in-Reversal : goal.returns-in-Reversal
returns-in-Reversal c = search rules
