-- Which words are a host on a port, and which stop is told of those that are none.
use Rattle.std.proofs.Common.{◌≡◌, inl, inr, refl, sym, subst, ap, ◌∙◌, ◌<◌, Bool, ℕ, List, [], ◌∷◌, ◌==◌, codes, true, false, ne_eqb, arith, slice_index}
use Rattle.std.specs.Prelude.{IfNone, Some, None}
use Rattle.std.specs.declared.option.Option.{Option}
use Rattle.std.specs.Char.{digit_value}
use Rattle.std.specs.Str.Parse.{IsNumeral, without_leading_plus}
use Rattle.clap.specs.Words.{takes}
use Rattle.clap.specs.Simple.{built}
use Rattle.clap.proofs.OnLiterals.{clap_on_literals}
use Rattle.iso_cli.specs.Words.{Asks, AsksNothing, AsksShow}
use Rattle.iso_cli.specs.declared.words.Job.{Job}
use Rattle.iso_cli.specs.declared.words.Job.TheVariants.{Echo, Check, Show, Convert, Run}
use Rattle.iso_cli.specs.Listening.{AsksNoServe, AsksServe, Listens, host_words}
use Rattle.iso_host.specs.Counts.{Stream}
use Rattle.iso_cli.specs.Stop.{status_of, stop_of_words}
use Rattle.iso_cli.specs.Tells.{TellsLineOf}
use Rattle.iso_cli.specs.declared.stop.Stop.{Stop}
use Rattle.iso_cli.specs.declared.stop.Stop.TheVariants as stop
use Rattle.iso_cli.specs.declared.words.WordsFault.{WordsFault}
use Rattle.iso_cli.specs.declared.words.WordsFault.TheVariants as words
use Rattle.iso_cli.specs.CommandLine.{port_app}
use Rattle.iso_cli.specs.declared.listening.Listening.{Listening}
use Rattle.iso_cli.proofs.WalkLemmas.{Enters, IsName, header_is_name, takes_names}

serve_enters : Enters (built port_app) (codes "serve")
unfolding clap_on_literals
serve_enters = record { found = refl; stops = refl; turn = refl; defaults = refl; valid = refl }

takes_serve : (table accounts header port count : List ℕ) → IsName table → IsName accounts → IsName header → IsName port → IsName count
    → takes port_app (codes "serve" ∷ table ∷ accounts ∷ header ∷ port ∷ count ∷ []) ≡ true
unfolding clap_on_literals
takes_serve table accounts header port count t a h p n =
    takes_names port_app (codes "serve") (table ∷ accounts ∷ header ∷ port ∷ count ∷ []) refl refl serve_enters (t, (a, (h, (p, (n, tt))))) refl

numeral_is_name : (word : List ℕ) → IsNumeral 10 (without_leading_plus word) → IsName word
numeral_is_name [] h = absurd (omega (arith, h.0))
numeral_is_name (c ∷ cs) h =
    let plain : (c == 45) ≡ false = ne_eqb c 45 (λ e.
    let digits = subst (λ (x : ℕ). IsNumeral 10 (without_leading_plus (x ∷ cs))) e h in
    let dash : digit_value 45 < 10 = digits.1.0 in omega (arith, dash)) in
    rw plain refl

-- the words of a host on a port pass
pub takes_asked : (words : List (List ℕ)) (l : Listening) → AsksServe words l → takes port_app words ≡ true
takes_asked words l asks =
    let header : IsName asks.header = subst IsName (sym asks.listens.header_is) (header_is_name l.header) in
    rw asks.spelled
    (takes_serve asks.table asks.accounts asks.header asks.port asks.count asks.listens.table_name asks.listens.accounts_name header (numeral_is_name asks.port asks.listens.port_is.digits) (numeral_is_name asks.count asks.listens.count_is.digits))

-- where six words name no host, these words spell none
pub none_of_six : (found : Option Listening) (words : List (List ℕ)) (table accounts header port count : List ℕ)
    → words ≡ codes "serve" ∷ table ∷ accounts ∷ header ∷ port ∷ count ∷ []
    → IfNone found ((l : Listening) → Listens (host_words table accounts header port count) l → ⊥) → IfNone found (AsksNoServe words)
none_of_six (Some l) words table accounts header port count is none = tt
none_of_six None words table accounts header port count is none = nothing
  where
    nothing : (l : Listening) → AsksServe words l → ⊥
    nothing l asks =
        let same : codes "serve" ∷ asks.table ∷ asks.accounts ∷ asks.header ∷ asks.port ∷ asks.count ∷ [] ≡ codes "serve" ∷ table ∷ accounts ∷ header ∷ port ∷ count ∷ [] = sym asks.spelled ∙ is in
        let table_is : asks.table ≡ table = cc in
        let accounts_is : asks.accounts ≡ accounts = cc in
        let header_is : asks.header ≡ header = cc in
        let port_is : asks.port ≡ port = cc in
        let count_is : asks.count ≡ count = cc in
        none l (rw (← table_is, ← accounts_is, ← header_is, ← port_is, ← count_is) asks.listens)

-- the stop of words comes of words that are refused
pub refused_words : (fault : WordsFault) (told : Stop) → told ≡ stop_of_words fault → told ≡ stop.Words → fault ≡ words.Refused
refused_words words.Refused told is asked = refl
refused_words words.Memory told is asked = cc

words_status : (told : Stop) → status_of told ≡ 2 → told ≡ stop.Words
words_status stop.Words two = refl
words_status stop.File two = absurd (omega (arith, two))
words_status stop.Read two = absurd (omega (arith, two))
words_status stop.Write two = absurd (omega (arith, two))
words_status stop.Memory two = absurd (omega (arith, two))
words_status stop.TooManyTurns two = absurd (omega (arith, two))
words_status stop.InputTooLong two = absurd (omega (arith, two))
words_status stop.TrailingBytes two = absurd (omega (arith, two))
words_status stop.BadHeader two = absurd (omega (arith, two))
words_status stop.CutFrame two = absurd (omega (arith, two))
words_status (stop.Table e) two = absurd (omega (arith, two))
words_status (stop.Host e) two = absurd (omega (arith, two))
words_status (stop.Accounts e) two = absurd (omega (arith, two))
words_status (stop.Unpack e) two = absurd (omega (arith, two))
words_status (stop.Pack e) two = absurd (omega (arith, two))

-- where status 2 was given, the stop of words was told
pub told_words : (before after : Stream) (told : Stop) (given : ℕ)
    → TellsLineOf before after told (status_of told) given → given ≡ 2 → told ≡ stop.Words
told_words before after told given (inl (inl line)) two = words_status told (sym line.given_is ∙ two)
told_words before after told given (inl (inr untold)) two = absurd (omega (arith, untold.status, two))
told_words before after told given (inr (inl line)) two = absurd (omega (arith, line.given_is, two))
told_words before after told given (inr (inr untold)) two = absurd (omega (arith, untold.status, two))

show_first : (w : List ℕ) (ws : List (List ℕ)) (table : List ℕ) (clear : Bool) → AsksShow (w ∷ ws) table clear → w ≡ codes "show"
show_first w ws table false is = cc
show_first w ws table true (inl is) = cc
show_first w ws table true (inr is) = cc

-- words that begin with `serve` ask no other command
pub serve_is_no_job : (words rest : List (List ℕ)) → words ≡ codes "serve" ∷ rest → AsksNothing words
serve_is_no_job [] rest is = cc
serve_is_no_job (w ∷ ws) rest is = nothing
  where
    serve : w ≡ codes "serve"
    serve = cc

    -- its first bytes are no other command's
    other : (k a b : ℕ) (word : List ℕ) → w ≡ word → slice_index (codes "serve") k ≡ a → slice_index word k ≡ b → a ≡ b
    other k a b word same one two = sym one ∙ (ap (λ (l : List ℕ). slice_index l k) (sym serve ∙ same) ∙ two)

    nothing : (job : Job) → Asks (w ∷ ws) job → ⊥
    nothing Echo asks = cc
    nothing (Check table) asks = let first : w ≡ codes "check" = cc in absurd (omega (arith, other 0 115 99 (codes "check") first (refl {a = 115}) (refl {a = 99})))
    nothing (Show table clear) asks =
        let first = show_first w ws table.now clear asks.1 in absurd (omega (arith, other 1 101 104 (codes "show") first (refl {a = 101}) (refl {a = 104})))
    nothing (Convert from to) asks = let first : w ≡ codes "convert" = cc in absurd (omega (arith, other 0 115 99 (codes "convert") first (refl {a = 115}) (refl {a = 99})))
    nothing (Run table accounts header) asks = let first : w ≡ codes "run" = cc in absurd (omega (arith, other 0 115 114 (codes "run") first (refl {a = 115}) (refl {a = 114})))
