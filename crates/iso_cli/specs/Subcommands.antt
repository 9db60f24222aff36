-- What a table of subcommands makes of a command.
-- Inner: bodies and proofs cite it, and no public clause does.
use Rattle.std.specs.Prelude.{Bool, true, false, List, [], ◌∷◌}
use Rattle.std.specs.Borrow.{Bor}
use Rattle.clap.specs.Words.{AddsSubcommand, App, Text, with_rule, with_subcommand}
use Rattle.clap.specs.declared.builder.command.Command.{Command}
use Rattle.iso_cli.specs.declared.subcommands.Subcommand.{Subcommand}
use Rattle.iso_cli.specs.CommandLine.{IsCommand, bare_app, clear_rule, name_rule}

-- the command with these names more, each of which has to be given
abbrev pub with_names : App → List (Bor Text) → App
with_names app [] = app
with_names app (id ∷ ids) = with_names (with_rule app (name_rule id.now)) ids

-- a command of this name with these arguments
abbrev pub named_app : Text → List (Bor Text) → App
named_app name ids = with_names (bare_app name) ids

-- the command, with the flag `--clear` or without
abbrev pub with_clear : Bool → App → App
with_clear true app = with_rule app clear_rule
with_clear false app = app

-- the command that a row of the table stands for
abbrev pub subcommand_app : Subcommand → App
subcommand_app row = with_clear row.clear (named_app row.name.now row.arguments.now)

-- the command with these subcommands more
abbrev pub with_subcommands : App → List Subcommand → App
with_subcommands app [] = app
with_subcommands app (row ∷ rows) =
    with_subcommands (with_subcommand app (subcommand_app row).top) rows

-- one command is the other with this subcommand more
abbrev pub AddsRow : Subcommand → Command → Command → Type 0
AddsRow row old new = (sub : Command) × IsCommand (subcommand_app row) sub
    × AddsSubcommand old sub new
