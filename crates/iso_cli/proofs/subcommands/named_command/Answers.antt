use Rattle.iso_cli.proofs.SubcommandLemmas.{adds_name}
use Rattle.iso_cli.proofs.subcommands.named_command.Goals as goal

pub loop-argument-preserved : goal.loop-argument-preserved
loop-argument-preserved c =
    let added = adds_name c.args.arguments.now c.loop-argument.argument-index _ c.loop-argument.command c.in_ok-command.command c.name_argument.result _
    c.loop-argument-test.true c.name_argument.ensures c.in_ok-command.ensures c.loop-argument.invariant.local c.loop-argument.invariant.app_is in
    record { app_is = added.0; local = added.1 }
