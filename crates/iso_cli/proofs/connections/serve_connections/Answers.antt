use Rattle.iso_cli.specs.Connections.{lines, port}
use Rattle.iso_cli.proofs.ConnectionLemmas.{so_far_more, so_far_none, serves_some, told_off, told_on}
use Rattle.iso_cli.proofs.connections.serve_connections.Goals as goal

pub loop-init : goal.loop-init
loop-init g c =
    so_far_none c.args.table.now (port c.args.issuer.now (lines (g.O.Outlet.contents c.args.output.now) (g.F.Outlet.contents c.args.faults.now))) c.one_journal.ensures.none

pub returns-then-status-ne0 : goal.returns-then-status-ne0
returns-then-status-ne0 g c =
    let before = lines (g.O.Outlet.contents c.args.output.now) (g.F.Outlet.contents c.args.faults.now) in
    let told = lines (g.O.Outlet.contents c.loop.output) (g.F.Outlet.contents c.loop.faults) in
    let later = lines (g.O.Outlet.contents c.tell_end-status.new.output) (g.F.Outlet.contents c.tell_end-status.new.faults) in
    record {
      served = serves_some c.one_journal.ensures.more c.args.table.now (port c.args.issuer.now before) (port c.loop.issuer told) (port c.serve_next-ended.new.issuer later) c.args.count c.loop.counter
          c.serve_next-ended.result c.tell_end-status.result c.loop.invariant c.loop-test.true c.serve_next-ended.ensures
          (told_off told later c.serve_next-ended.result c.tell_end-status.result c.tell_end-status.ensures.told c.if-status-ne0.true);
    }

pub loop-preserved : goal.loop-preserved
loop-preserved g c =
    let before = lines (g.O.Outlet.contents c.args.output.now) (g.F.Outlet.contents c.args.faults.now) in
    let told = lines (g.O.Outlet.contents c.loop.output) (g.F.Outlet.contents c.loop.faults) in
    let later = lines (g.O.Outlet.contents c.tell_end-status.new.output) (g.F.Outlet.contents c.tell_end-status.new.faults) in
    so_far_more c.one_journal.ensures.more c.args.table.now (port c.args.issuer.now before) (port c.loop.issuer told) (port c.serve_next-ended.new.issuer later) c.loop.counter
    c.serve_next-ended.result c.loop.invariant c.serve_next-ended.ensures
    (told_on told later c.serve_next-ended.result c.tell_end-status.result c.tell_end-status.ensures.told c.if-status-ne0.false)
