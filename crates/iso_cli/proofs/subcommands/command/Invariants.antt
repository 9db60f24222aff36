use Rattle.std.proofs.Common.{◌≡◌, drop, false}
use Rattle.clap.specs.Words.{app_of}
use Rattle.clap.specs.declared.builder.command.Command.TheViews.{out-Command}
use Rattle.iso_cli.specs.CommandLine.{iso_alone}
use Rattle.iso_cli.specs.Subcommands.{with_subcommands}
use Rattle.iso_cli.proofs.subcommands.command.Given as goal

-- with the rest of the subcommands, the command is the whole one
abbrev pub invariant-loop-row : goal.invariant-loop-row
invariant-loop-row l = record {
  app_is : with_subcommands (app_of l.command) (drop l.row-index l.subcommands) ≡ with_subcommands iso_alone l.subcommands;
  local : (out-Command l.command).has_globals ≡ false;
}
