-- How a host behaves to a message, by its rules.
use Rattle.std.specs.Prelude.{◌≡◌, ℕ, ◌+◌, false, true, List, ◌∷◌, ◌++◌, length, All, map, Option, Some, None}
use Rattle.iso_wire.specs.Contents.{Contents}
use Rattle.iso_script.specs.Turns.{counted, is_due}
use Rattle.iso_script.specs.declared.behaviour.Behaviour.{Behaviour}
use Rattle.iso_script.specs.declared.behaviour.Behaviour.TheVariants.{Honest, Ruled}
use Rattle.iso_script.specs.declared.behaviour.Deed.{Deed}
use Rattle.iso_script.specs.declared.counted.Counted.{Counted}

-- no rule decides at the message
abbrev pub NoneDue : List Counted → Contents → Type 0
NoneDue rules m = All (λ c. is_due m c ≡ false) rules

-- the rule of this number, counted from 1, is the first that decides at the message
pub record IsFirst (rules : List Counted) (m : Contents) (number : ℕ) (deed : Deed) : Type 0 where
  pub before : List Counted
  pub decides : Counted
  pub after : List Counted
  pub whole : rules ≡ before ++ decides ∷ after
  pub number_is : number ≡ length before + 1
  pub deed_is : deed ≡ decides.rule.deed
  pub due : is_due m decides ≡ true
  pub none_before : NoneDue before m

-- the deed of the first rule that decides; honest where none does
abbrev pub IsBehaviour : List Counted → Contents → Behaviour → Type 0
IsBehaviour rules m Honest = NoneDue rules m
IsBehaviour rules m (Ruled number deed) = IsFirst rules m number deed

-- how a host behaves to what a body is: to none honestly
abbrev pub IsBehaviourTo : List Counted → Option Contents → Behaviour → Type 0
IsBehaviourTo rules None b = b ≡ Honest
IsBehaviourTo rules (Some m) b = IsBehaviour rules m b

-- the rules once the message came
abbrev pub all_counted : List Counted → Contents → List Counted
all_counted rules m = map (counted m) rules

-- the rules once what a body is came
abbrev pub counted_by : List Counted → Option Contents → List Counted
counted_by rules None = rules
counted_by rules (Some m) = all_counted rules m
