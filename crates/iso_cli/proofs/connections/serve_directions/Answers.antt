use Rattle.iso_host.specs.Links.{agreed}
use Rattle.iso_host.specs.Serving.{standing}
use Rattle.iso_cli.proofs.ConnectionLemmas.{is_connection}
use Rattle.iso_cli.proofs.connections.serve_directions.Goals as goal

pub returns-clause-connection : goal.returns-clause-connection
returns-clause-connection g c =
    is_connection (agreed c.args.table.now c.args.header) (standing (g.R.Inlet.remaining c.args.reader.now) (g.W.Outlet.contents c.args.writer.now) c.args.issuer.now)
    (standing (g.R.Inlet.remaining c.serve.new.reader) (g.W.Outlet.contents c.serve.new.writer) c.serve.new.issuer) c.serve.result c.serve.ensures.leaves
