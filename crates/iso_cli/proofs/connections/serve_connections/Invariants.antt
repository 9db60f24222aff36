use Rattle.iso_cli.specs.Connections.{lines, port}
use Rattle.iso_cli.proofs.ConnectionLemmas.{SoFar}
use Rattle.iso_cli.proofs.connections.serve_connections.Given as goal

-- as many connections as turns of the loop were served and told
abbrev pub invariant-loop : goal.invariant-loop
invariant-loop g l =
    SoFar l.table (port l.initial.issuer (lines (g.O.Outlet.contents l.initial.output) (g.F.Outlet.contents l.initial.faults)))
    (port l.issuer (lines (g.O.Outlet.contents l.output) (g.F.Outlet.contents l.faults))) l.counter
