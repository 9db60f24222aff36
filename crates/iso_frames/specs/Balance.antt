-- The balance that a response tells.
use Rattle.std.specs.Prelude.{◌/◌, ℕ, zero, suc, ℤ, pos, ◌-ℤ◌, Bool, ◌==◌, ◌&&◌, List, [], ◌∷◌, take, drop, Option, Some, None, option_and_then, if◌then◌else◌}
use Rattle.std.specs.Option.{option_or}
use Rattle.std.specs.Str.{bytes_eq}
use Rattle.iso_wire.specs.Contents.{Contents}
use Rattle.iso_wire.specs.Decimal.{number_in}
use Rattle.iso_wire.specs.Elements.{value_in}
use Rattle.iso_order.specs.declared.told.Told.{Told}

-- an amount with its sign: 'C' for credit, 'D' for debit
abbrev pub signed : ℕ → ℕ → Option ℤ
signed sign amount =
    if sign == 67 then Some (pos amount) else if sign == 68 then Some (pos 0 -ℤ pos amount)
    else None

-- what an additional amount tells (element 54): account type, amount type 02 for what is available, currency, sign, amount
abbrev pub available_in : List ℕ → List ℕ → Option ℤ
available_in currency (t ∷ u ∷ v ∷ w ∷ a ∷ b ∷ c ∷ sign ∷ amount) =
    if v == 48 && w == 50 && bytes_eq (a ∷ b ∷ c ∷ []) currency
    then option_and_then (signed sign) (number_in 12 12 amount)
    else None
available_in currency other = None

-- what the first so many additional amounts tell, of twenty bytes each: the first that is what is available in the currency
unfoldable pub balance_from : ℕ → List ℕ → List ℕ → Option ℤ
balance_from zero currency text = None
balance_from (suc n) currency text =
    option_or (available_in currency (take 20 text)) (balance_from n currency (drop 20 text))

-- what a message tells in its own currency (element 49), of six amounts at most
abbrev pub balance_in : Contents → Option ℤ
balance_in m =
    option_and_then
    (λ amounts.
    option_and_then (λ currency. balance_from 6 currency amounts) (value_in m.elements 49))
    (value_in m.elements 54)

-- an answer to a message of class 1: inquiries are authorizations, and what other answers tell of balances isn't asked for
abbrev pub tells_balance : Told → Bool
tells_balance told = told.key.base / 100 == 1

-- the balance that an answer tells to an inquiry
abbrev pub balance_told : Contents → Told → Option ℤ
balance_told m told = if tells_balance told then balance_in m else None
