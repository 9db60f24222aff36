-- What one more argument, or one more subcommand, makes of a command.
use Rattle.std.proofs.Common.{◌≡◌, sym, ap, ap₂, ◌∙◌, ◌||◌, ◌<◌, ◌+◌, ℕ, List, ◌∷◌, false, length, get_or, drop, add-one}
use Rattle.std.proofs.Math.Seq.{drop-cons}
use Rattle.std.specs.Borrow.{Bor}
use Rattle.clap.specs.Words.{App, AddsArg, Text, app_of, with_rule, with_subcommand}
use Rattle.clap.specs.declared.builder.arg.Arg.{Arg}
use Rattle.clap.specs.declared.builder.command.Command.{Command}
use Rattle.clap.specs.declared.builder.command.Command.TheViews.{out-Command}
use Rattle.iso_cli.specs.CommandLine.{FollowsRule, name_rule}
use Rattle.iso_cli.specs.Subcommands.{AddsRow, with_names, with_subcommands}
use Rattle.iso_cli.specs.declared.subcommands.Subcommand.{Subcommand}

-- the argument is added, and the rest of the names are still to come
pub adds_name : (ids : List (Bor Text)) (i : ℕ) (d : Bor Text) (old new : Command) (arg : Arg) (whole : App) → i < length ids
    → FollowsRule (name_rule (get_or ids i d).now) arg → AddsArg old arg new → (out-Command old).has_globals ≡ false
    → with_names (app_of old) (drop i ids) ≡ whole
    → (with_names (app_of new) (drop (i + 1) ids) ≡ whole) × ((out-Command new).has_globals ≡ false)
adds_name ids i d old new arg whole there is added local before =
    let less : drop i ids ≡ get_or ids i d ∷ drop (i + 1) ids = drop-cons ids i d there ∙ ap (λ (k : ℕ). get_or ids i d ∷ drop k ids) (sym (add-one i)) in (
      ap (λ (a : App). with_names a (drop (i + 1) ids)) (added.shape is.local ∙ ap (with_rule (app_of old)) is.rule_is)
          ∙ (ap (with_names (app_of old)) (sym less) ∙ before),
      added.globals ∙ ap₂ ◌||◌ local is.local,
    )

-- the same of a subcommand
pub adds_subcommand : (rows : List Subcommand) (i : ℕ) (d : Subcommand) (old new : Command) (whole : App) → i < length rows
    → AddsRow (get_or rows i d) old new → (out-Command old).has_globals ≡ false
    → with_subcommands (app_of old) (drop i rows) ≡ whole
    → (with_subcommands (app_of new) (drop (i + 1) rows) ≡ whole) × ((out-Command new).has_globals ≡ false)
adds_subcommand rows i d old new whole there (sub, is, added) local before =
    let less : drop i rows ≡ get_or rows i d ∷ drop (i + 1) rows = drop-cons rows i d there ∙ ap (λ (k : ℕ). get_or rows i d ∷ drop k rows) (sym (add-one i)) in (
      ap (λ (a : App). with_subcommands a (drop (i + 1) rows)) (added.shape is.local ∙ ap (λ (a : App). with_subcommand (app_of old) a.top) is.app_is)
          ∙ (ap (with_subcommands (app_of old)) (sym less) ∙ before),
      added.globals ∙ ap₂ ◌||◌ local is.local,
    )
