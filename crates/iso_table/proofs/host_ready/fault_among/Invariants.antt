use Rattle.std.proofs.Common.{◌≡◌, drop}
use Rattle.iso_table.specs.HostReady.{host_rows_fault}
use Rattle.iso_table.proofs.host_ready.fault_among.Given as goal

abbrev pub invariant-loop-row : goal.invariant-loop-row
invariant-loop-row l = host_rows_fault (drop l.row-index l.wanted) l.places ≡ host_rows_fault l.wanted l.places
