-- How an exchange ends.
use Rattle.std.proofs.Common.{◌≡◌, ℕ, Bool, true, false, sym, ap, subst, refl, arith, List, length, if◌then◌else◌}
use Rattle.std.specs.Prelude.{Option, Some, None}
use Rattle.std.proofs.lemmas.Bool.Decides.{nat_tests}
use Rattle.iso_wire.specs.declared.header.Header.{Header}
use Rattle.iso_wire.specs.Framing.{Splits, SplitsSomehow, is_bad_header}
use Rattle.iso_replay.specs.Exchanging.{Standing, is_whole, ending_of}
use Rattle.iso_replay.specs.Exchanged.{EndsBy}
use Rattle.iso_replay.specs.declared.exchange.Ending.{Ending}
use Rattle.iso_replay.specs.declared.exchange.Ending.TheVariants.{Whole, BadHeader, Closed, Silent}
use Rattle.iso_replay.specs.declared.running.Exchanged.{Exchanged}
use Rattle.iso_replay.specs.declared.running.Plan.{Plan}

abbrev told : Bool → Bool → Bool → Bool → Option Ending
told whole bad closed silent = if whole then Some Whole else if bad then Some BadHeader else if closed then Some Closed else if silent then Some Silent else None

abbrev tells_whole : Option Ending → Bool
tells_whole (Some Whole) = true
tells_whole (Some BadHeader) = false
tells_whole (Some Closed) = false
tells_whole (Some Silent) = false
tells_whole None = false

abbrev tells_bad : Option Ending → Bool
tells_bad (Some Whole) = false
tells_bad (Some BadHeader) = true
tells_bad (Some Closed) = false
tells_bad (Some Silent) = false
tells_bad None = false

whole_by : (w b c s : Bool) → Some Whole ≡ told w b c s → w ≡ true
whole_by true b c s is = refl
whole_by false true c s is = sym (ap tells_whole is)
whole_by false false true s is = sym (ap tells_whole is)
whole_by false false false true is = sym (ap tells_whole is)
whole_by false false false false is = sym (ap tells_whole is)

bad_by : (w b c s : Bool) → Some BadHeader ≡ told w b c s → b ≡ true
bad_by true b c s is = absurd (let f : true ≡ false = ap tells_bad is in cc)
bad_by false true c s is = refl
bad_by false false true s is = sym (ap tells_bad is)
bad_by false false false true is = sym (ap tells_bad is)
bad_by false false false false is = sym (ap tells_bad is)

-- an ending that is told at a moment
abbrev pub IsTold : Standing → ℕ → Ending → Type 0
IsTold s now e = (bodies : List (List ℕ)) (rest : List ℕ) → Splits s.heard.header s.heard.bytes bodies rest → Some e ≡ ending_of s bodies rest now

-- the exchange did what its ending says
pub record IsOutcome (plan : Plan) (done : Exchanged) (s : Standing) : Type 0 where
  pub header : s.heard.header ≡ plan.header
  pub wanted : s.wanted ≡ plan.wanted
  pub came : done.came.items ≡ s.heard.bytes
  pub unsent : done.unsent ≡ length s.unsent

split_again : (plan : Plan) (done : Exchanged) (s : Standing) → IsOutcome plan done s → (bodies : List (List ℕ)) (rest : List ℕ)
    → Splits plan.header done.came.items bodies rest → Splits s.heard.header s.heard.bytes bodies rest
split_again plan done s is bodies rest splits =
    let headed : Splits s.heard.header done.came.items bodies rest = subst (λ (h : Header). Splits h done.came.items bodies rest) (sym is.header) splits in
    subst (λ (b : List ℕ). Splits s.heard.header b bodies rest) is.came headed

pub ends_so : (plan : Plan) (done : Exchanged) (s : Standing) (now : ℕ) (e : Ending) → SplitsSomehow → IsOutcome plan done s → IsTold s now e → EndsBy plan done e
ends_so plan done s now Whole some is says =
    let split = some s.heard.header s.heard.bytes in
    let all : is_whole s split.0 ≡ true = whole_by _ _ _ _ (says split.0 split.1 split.2) in
    let unsent = is.unsent in
    let wanted = is.wanted in (
      grind (arith, nat_tests),
      λ bodies rest splits.
          let here : is_whole s bodies ≡ true = whole_by _ _ _ _ (says bodies rest (split_again plan done s is bodies rest splits)) in
          grind (arith, nat_tests),
    )
ends_so plan done s now BadHeader some is says = λ bodies rest splits.
    subst (λ (h : Header). is_bad_header h rest ≡ true) is.header (bad_by _ _ _ _ (says bodies rest (split_again plan done s is bodies rest splits)))
ends_so plan done s now Closed some is says = tt
ends_so plan done s now Silent some is says = tt
