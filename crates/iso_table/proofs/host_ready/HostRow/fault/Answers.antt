-- A row that a host can do without may be missing.
use Rattle.std.proofs.Common.{rules, ◌≡◌, false}
use Rattle.iso_table.proofs.host_ready.HostRow.fault.Goals as goal

pub returns-in-None-2 : goal.returns-in-None-2
returns-in-None-2 c = let free : c.args.self.needed ≡ false = c.if-self.false in search rules
