use Rattle.std.proofs.Common.{◌≡◌, drop, false}
use Rattle.clap.specs.Words.{app_of}
use Rattle.clap.specs.declared.builder.command.Command.TheViews.{out-Command}
use Rattle.iso_cli.specs.Subcommands.{named_app, with_names}
use Rattle.iso_cli.proofs.subcommands.named_command.Given as goal

-- with the rest of the arguments, the command is the whole one
abbrev pub invariant-loop-argument : goal.invariant-loop-argument
invariant-loop-argument l = record {
  app_is : with_names (app_of l.command) (drop l.argument-index l.arguments) ≡ named_app l.name l.arguments;
  local : (out-Command l.command).has_globals ≡ false;
}
