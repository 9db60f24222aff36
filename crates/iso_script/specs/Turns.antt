-- At which messages a rule decides.
use Rattle.std.specs.Prelude.{◌≡◌, ◌↔◌, ℕ, ◌+◌, ◌-◌, ◌%◌, ◌≤◌, Bool, true, ◌==◌, ◌&&◌, if◌then◌else◌, List, [], ◌∷◌, count_by}
use Rattle.iso_wire.specs.Contents.{Contents}
use Rattle.iso_script.specs.Fitting.{fits}
use Rattle.iso_script.specs.declared.behaviour.Rule.{Rule}
use Rattle.iso_script.specs.declared.counted.Counted.{Counted}

-- ---- message after message

-- before the first message
abbrev pub begun : Rule → Counted
begun r = record { rule = r; left = r.every - 1 }

-- the message is one at which the rule decides
abbrev pub is_due : Contents → Counted → Bool
is_due m c = fits c.rule.pattern m && (c.left == 0)

-- how many messages are passed over after one that fits
abbrev pub left_after : Counted → ℕ
left_after c = if c.left == 0 then c.rule.every - 1 else c.left - 1

-- the rule once the message came
unfoldable pub counted : Contents → Counted → Counted
counted m c = if fits c.rule.pattern m then record c { left = left_after c } else c

-- ---- over a whole run

-- the rule once these messages came
abbrev pub counted_all : Counted → List Contents → Counted
counted_all c [] = c
counted_all c (m ∷ ms) = counted_all (counted m c) ms

-- how many of the messages fit the rule
abbrev pub fitting : Rule → List Contents → ℕ
fitting r ms = count_by (λ m. fits r.pattern m) ms

-- behind any messages, a rule decides at a message that fits exactly where that one is its n-th, 2n-th and so on
abbrev pub TurnsByCount : Type 0
TurnsByCount =
    (r : Rule) (ms : List Contents) (m : Contents) → 1 ≤ r.every
    → (is_due m (counted_all (begun r) ms) ≡ true)
    ↔ ((fits r.pattern m ≡ true) × ((fitting r ms + 1) % r.every ≡ 0))
