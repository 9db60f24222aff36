-- The words that `clap` lets pass.
use Rattle.std.proofs.Common.{◌≡◌, refl, sym, subst, inl, inr, Bool, ℕ, IsTrue, List, [], ◌∷◌, ◌==◌, codes, true, false}
use Rattle.std.proofs.lemmas.Bool.{not-true}
use Rattle.clap.specs.Words.{takes}
use Rattle.clap.specs.Simple.{built}
use Rattle.clap.proofs.OnLiterals.{clap_on_literals}
use Rattle.std.specs.Prelude.{IfNone, Some, None}
use Rattle.std.specs.declared.option.Option.{Option}
use Rattle.iso_cli.specs.Words.{header_name, is_name, AsksShow, Asks, AsksNothing}
use Rattle.iso_cli.specs.NoJob.{AsksNoCodec, AsksNoRun}
use Rattle.iso_cli.specs.CommandLine.{iso_app}
use Rattle.iso_cli.specs.declared.words.Job.{Job}
use Rattle.iso_cli.specs.declared.words.Job.TheVariants.{Echo, Check, Show, Convert, Run}
use Rattle.iso_cli.proofs.WalkLemmas.{Enters, IsName, header_is_name, takes_names}

check_enters : Enters (built iso_app) (codes "check")
unfolding clap_on_literals
check_enters = record { found = refl; stops = refl; turn = refl; defaults = refl; valid = refl }

show_enters : Enters (built iso_app) (codes "show")
unfolding clap_on_literals
show_enters = record { found = refl; stops = refl; turn = refl; defaults = refl; valid = refl }

convert_enters : Enters (built iso_app) (codes "convert")
unfolding clap_on_literals
convert_enters = record { found = refl; stops = refl; turn = refl; defaults = refl; valid = refl }

run_enters : Enters (built iso_app) (codes "run")
unfolding clap_on_literals
run_enters = record { found = refl; stops = refl; turn = refl; defaults = refl; valid = refl }

takes_check : (table : List ℕ) → IsName table → takes iso_app (codes "check" ∷ table ∷ []) ≡ true
unfolding clap_on_literals
takes_check table t = takes_names iso_app (codes "check") (table ∷ []) refl refl check_enters (t, tt) refl

takes_show : (table : List ℕ) → IsName table → takes iso_app (codes "show" ∷ table ∷ []) ≡ true
unfolding clap_on_literals
takes_show table t = takes_names iso_app (codes "show") (table ∷ []) refl refl show_enters (t, tt) refl

takes_clear_first : (table : List ℕ) → IsName table → takes iso_app (codes "show" ∷ codes "--clear" ∷ table ∷ []) ≡ true
unfolding clap_on_literals
takes_clear_first [] t = refl
takes_clear_first (x ∷ xs) t = let e = not-true (x == 45) t in rw e (rw e (refl {a = true}))

takes_clear_last : (table : List ℕ) → IsName table → takes iso_app (codes "show" ∷ table ∷ codes "--clear" ∷ []) ≡ true
unfolding clap_on_literals
takes_clear_last [] t = refl
takes_clear_last (x ∷ xs) t = let e = not-true (x == 45) t in rw e (rw e (refl {a = true}))

takes_convert : (from to : List ℕ) → IsName from → IsName to → takes iso_app (codes "convert" ∷ from ∷ to ∷ []) ≡ true
unfolding clap_on_literals
takes_convert from to f t = takes_names iso_app (codes "convert") (from ∷ to ∷ []) refl refl convert_enters (f, (t, tt)) refl

takes_run : (table accounts header : List ℕ) → IsName table → IsName accounts → IsName header
    → takes iso_app (codes "run" ∷ table ∷ accounts ∷ header ∷ []) ≡ true
unfolding clap_on_literals
takes_run table accounts header t a h =
    takes_names iso_app (codes "run") (table ∷ accounts ∷ header ∷ []) refl refl run_enters (t, (a, (h, tt))) refl

abbrev pub Passes : List (List ℕ) → Type 0
Passes words = takes iso_app words ≡ true

takes_asked_show : (words : List (List ℕ)) (table : List ℕ) (clear : Bool) → IsTrue (is_name table)
    → AsksShow words table clear → Passes words
takes_asked_show words table false name e = subst Passes (sym e) (takes_show table name)
takes_asked_show words table true name (inl e) = subst Passes (sym e) (takes_clear_first table name)
takes_asked_show words table true name (inr e) = subst Passes (sym e) (takes_clear_last table name)

-- what asks a job passes
pub takes_asked : (words : List (List ℕ)) (job : Job) → (words ≡ [] → ⊥) → Asks words job → Passes words
takes_asked words Echo some e = absurd (some e)
takes_asked words (Check table) some asks = subst Passes (sym asks.1) (takes_check table.now asks.0)
takes_asked words (Show table clear) some asks = takes_asked_show words table.now clear asks.0 asks.1
takes_asked words (Convert from to) some asks = subst Passes (sym asks.2) (takes_convert from.now to.now asks.0 asks.1)
takes_asked words (Run table accounts header) some asks = subst Passes (sym asks.2) (takes_run table.now accounts.now (header_name header) asks.0 asks.1 (header_is_name header))

-- words that ask no host on a stream and nothing else ask nothing
pub asks_nothing : (words : List (List ℕ)) (job : Option Job) → AsksNoCodec words → IfNone job (AsksNoRun words) → IfNone job (AsksNothing words)
asks_nothing words (Some job) codec run = tt
asks_nothing words None codec run = nothing
  where
    nothing : (job : Job) → Asks words job → ⊥
    nothing Echo asks = codec Echo refl asks
    nothing (Check table) asks = codec (Check table) refl asks
    nothing (Show table clear) asks = codec (Show table clear) refl asks
    nothing (Convert from to) asks = codec (Convert from to) refl asks
    nothing (Run table accounts header) asks = run table.now accounts.now header asks.0 asks.1 asks.2
