-- The journal: which orders are entered, which entries stand, and for how much.
use Rattle.std.specs.Prelude.{◌≡◌, ℕ, Bool, false, not, is_some, List, [], ◌∷◌, ◌==◌, ◌&&◌, find, filter, Option, Some, None, option_map, min, if◌then◌else◌}
use Rattle.std.specs.List.{list_any}
use Rattle.iso_order.specs.declared.key.TxKey.{TxKey}
use Rattle.iso_order.specs.declared.act.Act.{Act}
use Rattle.iso_order.specs.declared.act.Act.TheVariants.{Debit, Credit, Inquiry, Undo, Complete}
use Rattle.iso_order.specs.Pan.{AccountNumber}
use Rattle.iso_order.specs.Key.{same_key}
use Rattle.iso_order.specs.Order.{Instruction}
use Rattle.iso_issuer.specs.declared.journal.Entry.{Entry}
use Rattle.iso_issuer.specs.declared.effect.Effect.{Effect}
use Rattle.iso_issuer.specs.declared.effect.Side.TheVariants.{Held}
use Rattle.iso_issuer.specs.Effect.{effect_of, effect_amount, is_key, is_end_of, same_side}

-- ---- orders

-- an order of this key is among them
abbrev pub is_entered : List Instruction → TxKey → Bool
is_entered orders key = list_any (λ o. same_key o.key key) orders

-- the orders without each one whose key an earlier one has
abbrev pub firsts : List Instruction → List Instruction
firsts [] = []
firsts (o ∷ os) = o ∷ filter (λ p. not (same_key p.key o.key)) (firsts os)

-- no two orders have one key
abbrev pub HasDistinctKeys : List Instruction → Type 0
HasDistinctKeys [] = Unit {0}
HasDistinctKeys (o ∷ os) = (is_entered os o.key ≡ false) × HasDistinctKeys os

-- ---- entries

-- the entry of this key, where there is one
abbrev pub entry_at : List Entry → TxKey → Option Entry
entry_at journal key = find (λ e. same_key e.order.key key) journal

-- the key that a reversal names
abbrev pub undone_key : Act → Option TxKey
undone_key (Undo original left) = Some original
undone_key (Debit m) = None
undone_key (Credit m) = None
undone_key (Inquiry m) = None
undone_key (Complete m hold) = None

-- what a reversal leaves
abbrev pub left_by : Act → ℕ
left_by (Undo original left) = left
left_by (Debit m) = 0
left_by (Credit m) = 0
left_by (Inquiry m) = 0
left_by (Complete m hold) = 0

-- the first entry that reverses this key, where there is one
abbrev pub reversal_of : List Entry → TxKey → Option Entry
reversal_of journal key = find (λ r. is_key (undone_key r.order.act) key) journal

-- what the first reversal of this key leaves, where there is one; later ones change nothing (our own rule)
abbrev pub left_at : List Entry → TxKey → Option ℕ
left_at journal key = option_map (λ r. left_by r.order.act) (reversal_of journal key)

-- it is told what is left, and nothing is
abbrev pub is_nothing : Option ℕ → Bool
is_nothing None = false
is_nothing (Some left) = left == 0

-- the first reversal of this key leaves nothing
abbrev pub is_reversed : List Entry → TxKey → Bool
is_reversed journal key = is_nothing (left_at journal key)

-- the smaller of an amount and what is left of it
abbrev pub smaller_of : ℕ → Option ℕ → ℕ
smaller_of amount None = amount
smaller_of amount (Some left) = min amount left

-- a debit, a credit or a completion that was granted, of which something is left
abbrev pub is_counted_with : Option ℕ → Entry → Bool
is_counted_with left e =
    is_some (effect_of e.order) && (e.answer.code == 0) && not (is_nothing left)

-- one that was granted, and that isn't wholly reversed in the whole journal, earlier or later (our own rule)
abbrev pub is_counted : List Entry → Entry → Bool
is_counted journal e = is_counted_with (left_at journal e.order.key) e

-- some entry that counts completes the hold of this key on this account
abbrev pub is_completed : List Entry → TxKey → AccountNumber → Bool
is_completed journal key pan =
    list_any (λ c. is_counted journal c && is_end_of key pan (effect_of c.order)) journal

-- a hold that is completed, earlier or later
abbrev pub is_ended : List Entry → TxKey → Option Effect → Bool
is_ended journal key None = false
is_ended journal key (Some f) = same_side f.side Held && is_completed journal key f.pan

-- an entry that counts, and that isn't a hold that is ended (our own rule)
abbrev pub is_standing : List Entry → Entry → Bool
is_standing journal e =
    is_counted journal e && not (is_ended journal e.order.key (effect_of e.order))

-- what is left of the amount of an entry that stands, else 0
abbrev pub weight : List Entry → Entry → ℕ
weight journal e = if is_standing journal e
    then smaller_of (effect_amount (effect_of e.order)) (left_at journal e.order.key) else 0
