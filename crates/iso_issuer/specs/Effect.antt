-- What an order does to its account, as long as it stands.
use Rattle.std.specs.Prelude.{ℕ, Bool, true, false, ◌==◌, ◌&&◌, Option, Some, None, if◌then◌else◌}
use Rattle.iso_order.specs.declared.key.TxKey.{TxKey}
use Rattle.iso_order.specs.declared.act.Act.{Act}
use Rattle.iso_order.specs.declared.act.Act.TheVariants.{Debit, Credit, Inquiry, Undo, Complete}
use Rattle.iso_order.specs.Pan.{AccountNumber}
use Rattle.iso_order.specs.Key.{class_digit, same_key}
use Rattle.iso_order.specs.Order.{Instruction, same_pan}
use Rattle.iso_issuer.specs.declared.effect.Effect.{Effect}
use Rattle.iso_issuer.specs.declared.effect.Side.{Side}
use Rattle.iso_issuer.specs.declared.effect.Side.TheVariants.{Credited, Debited, Held}

-- a debit of class 1 holds, one of class 2 takes
abbrev pub side_of : TxKey → Side
side_of key = if class_digit key == 1 then Held else Debited

-- what such an order under this key does to an account by itself
abbrev pub effect_by : TxKey → Act → Option Effect
effect_by key (Debit m) =
    Some (record { pan = m.pan; side = side_of key; amount = m.amount; ends = None })
effect_by key (Credit m) =
    Some (record { pan = m.pan; side = Credited; amount = m.amount; ends = None })
effect_by key (Inquiry m) = None
effect_by key (Undo original left) = None
effect_by key (Complete m hold) =
    Some (record { pan = m.pan; side = Debited; amount = m.amount; ends = Some hold })

-- the account, the way and the amount of a debit, a credit or a completion, which also ends a hold; no other order has an effect of its own
abbrev pub effect_of : Instruction → Option Effect
effect_of o = effect_by o.key o.act

-- the amount of an effect
abbrev pub effect_amount : Option Effect → ℕ
effect_amount None = 0
effect_amount (Some f) = f.amount

-- it is drawn from what is available
abbrev pub is_drawn : Side → Bool
is_drawn Credited = false
is_drawn Debited = true
is_drawn Held = true

-- an amount counts the same way
abbrev pub same_side : Side → Side → Bool
same_side Credited Credited = true
same_side Debited Debited = true
same_side Held Held = true
same_side _ _ = false

-- it is this key
abbrev pub is_key : Option TxKey → TxKey → Bool
is_key None key = false
is_key (Some k) key = same_key k key

-- an effect that ends the hold of this key on this account
abbrev pub is_end_of : TxKey → AccountNumber → Option Effect → Bool
is_end_of key pan None = false
is_end_of key pan (Some f) = is_key f.ends key && same_pan f.pan pan

-- an effect on this account, this way
abbrev pub is_on : Side → AccountNumber → Option Effect → Bool
is_on side pan None = false
is_on side pan (Some f) = same_side f.side side && same_pan f.pan pan
