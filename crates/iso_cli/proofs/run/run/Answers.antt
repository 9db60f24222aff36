use Rattle.iso_host.specs.Links.{agreed}
use Rattle.iso_host.specs.Serving.{standing}
use Rattle.iso_cli.proofs.RunLemmas.{runs_over}
use Rattle.iso_cli.proofs.run.run.Goals as goal

pub returns-in-Ok-clause-output : goal.returns-in-Ok-clause-output
returns-in-Ok-clause-output g c =
    runs_over (g.S.Source.file c.args.source.now) c.args.table.now c.args.accounts.now (agreed c.in_ok-table.table c.args.header) c.in_ok-accounts.accounts
    (standing (g.I.Inlet.remaining c.args.input.now) (g.O.Outlet.contents c.args.output.now) c.new-issuer.result)
    (standing (g.I.Inlet.remaining c.serve.new.reader) (g.O.Outlet.contents c.serve.new.writer) c.serve.new.issuer) c.in-Ok.report
    c.in_ok-table.ensures.named c.in_ok-table.ensures.ready c.in_ok-accounts.ensures.accounts c.new-issuer.ensures c.in-Ok.ensures.leaves
