-- The command line that `clap` judges words by.
-- Inner: bodies and proofs cite it, and no public clause does.
use Rattle.std.specs.Prelude.{◌≡◌, true, false, Some, codes}
use Rattle.clap.specs.Words.{App, Rule, Text, app_of, new_app, new_rule, rule_of, with_rule, with_subcommand}
use Rattle.clap.specs.declared.builder.action.ArgAction.TheVariants.{SetTrue}
use Rattle.clap.specs.declared.builder.arg.Arg.{Arg}
use Rattle.clap.specs.declared.builder.command.Command.{Command}
use Rattle.clap.specs.declared.builder.command.Command.TheViews.{out-Command}

-- a name that has to be given
abbrev pub name_rule : Text → Rule
name_rule id = record (new_rule id) { required = true }

-- the flag `--clear`
abbrev pub clear_rule : Rule
clear_rule =
    record (new_rule (codes "clear")) { long = Some (codes "clear"); action = Some SetTrue }

-- a command with no help and no version of its own
abbrev pub bare_app : Text → App
bare_app name = record (new_app name) {
  top = record (new_app name).top {
    disable_help_flag = true;
    disable_help_subcommand = true;
    disable_version_flag = true;
  };
}

-- `check TABLE`
abbrev pub check_app : App
check_app = with_rule (bare_app (codes "check")) (name_rule (codes "table"))

-- `show TABLE`, and the flag
abbrev pub show_app : App
show_app = with_rule (with_rule (bare_app (codes "show")) (name_rule (codes "table"))) clear_rule

-- `convert FROM TO`
abbrev pub convert_app : App
convert_app = with_rule (with_rule (bare_app (codes "convert")) (name_rule (codes "from")))
    (name_rule (codes "to"))

-- a command of this name that takes a table, accounts and a header
abbrev pub host_app : Text → App
host_app name = with_rule (with_rule (with_rule (bare_app name) (name_rule (codes "table")))
    (name_rule (codes "accounts"))) (name_rule (codes "header"))

-- `run TABLE ACCOUNTS HEADER`
abbrev pub run_app : App
run_app = host_app (codes "run")

-- the command before its subcommands
abbrev pub iso_alone : App
iso_alone = record (bare_app (codes "iso")) {
  top = record (bare_app (codes "iso")).top { no_binary_name = true; subcommand_required = true };
}

-- the command with the subcommands that take one message, or none
abbrev pub codec_app : App
codec_app = with_subcommand
    (with_subcommand (with_subcommand iso_alone check_app.top) show_app.top) convert_app.top

-- the whole command
abbrev pub iso_app : App
iso_app = with_subcommand codec_app run_app.top

-- `serve TABLE ACCOUNTS HEADER PORT COUNT`
abbrev pub serve_app : App
serve_app = with_rule (with_rule (host_app (codes "serve")) (name_rule (codes "port")))
    (name_rule (codes "count"))

-- the command of a host on a port
abbrev pub port_app : App
port_app = with_subcommand iso_alone serve_app.top

-- the argument follows this rule, in its own command alone
pub record FollowsRule (rule : Rule) (arg : Arg) : Type 0 where
  pub rule_is : rule_of arg ≡ rule
  pub local : arg.global ≡ false

-- the command is this one, and none of its arguments is global
pub record IsCommand (app : App) (command : Command) : Type 0 where
  pub app_is : app_of command ≡ app
  pub local : (out-Command command).has_globals ≡ false
