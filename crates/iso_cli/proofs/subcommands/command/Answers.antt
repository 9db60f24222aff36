use Rattle.iso_cli.proofs.SubcommandLemmas.{adds_subcommand}
use Rattle.iso_cli.proofs.subcommands.command.Goals as goal

pub loop-row-preserved : goal.loop-row-preserved
loop-row-preserved c =
    let added = adds_subcommand c.args.subcommands.now c.loop-row.row-index _ c.loop-row.command c.in_ok-command.command _
    c.loop-row-test.true c.in_ok-command.ensures c.loop-row.invariant.local c.loop-row.invariant.app_is in
    record { app_is = added.0; local = added.1 }
