-- What an order is, and which orders a message can carry.
use Rattle.std.specs.Prelude.{ℕ, Bool, false, List, length, ◌==◌, ◌&&◌, ◌||◌, nat_le, Option, Some, None, if◌then◌else◌}
use Rattle.std.specs.List.{list_all}
use Rattle.std.specs.Str.{bytes_eq}
use Rattle.iso_parts.specs.Class.{is_digit, is_letter}
use Rattle.iso_order.specs.declared.key.TxKey.{TxKey}
use Rattle.iso_order.specs.declared.act.Act.{Act}
use Rattle.iso_order.specs.declared.act.Act.TheVariants.{Debit, Credit, Inquiry, Undo, Complete}
use Rattle.iso_order.specs.declared.act.Money.{Money}
use Rattle.iso_order.specs.Pan.{AccountNumber, is_pan}
use Rattle.iso_order.specs.Key.{class_digit, function_digit, is_valid_key, same_key}

-- the key under which it is asked, and what is asked
pub record Instruction : Type 0 where
  pub key : TxKey
  pub act : Act

-- ---- which orders are valid

-- a byte that a currency code may have
abbrev pub is_letter_or_digit : ℕ → Bool
is_letter_or_digit b = is_digit b || is_letter b

-- three letters or digits (element 49, currency code)
abbrev pub is_currency : List ℕ → Bool
is_currency text = length text == 3 && list_all is_letter_or_digit text

-- the currency that a text is, if it is one
abbrev pub currency_of : List ℕ → Option (List ℕ)
currency_of text = if is_currency text then Some text else None

-- an account number and a currency (elements 2, 49)
abbrev pub is_account : Money → Bool
is_account m = is_pan m.pan && is_currency m.currency

-- the largest amount: twelve nines, in minor units (element 4, amount, transaction)
abbrev pub most_amount : ℕ
most_amount = 999999999999

-- an amount that is moved, from 1 on
abbrev pub has_amount : Money → Bool
has_amount m = is_account m && nat_le 1 m.amount && nat_le m.amount most_amount

-- class 1 or 2
abbrev pub is_payment : TxKey → Bool
is_payment k = class_digit k == 1 || class_digit k == 2

-- a hold that a message with the key can complete: of class 1, and of its own acquirer
abbrev pub is_hold_for : TxKey → TxKey → Bool
is_hold_for key hold = is_valid_key hold && class_digit hold == 1 && hold.acquirer == key.acquirer

-- what a message with the key can ask
abbrev pub is_valid_act : TxKey → Act → Bool
is_valid_act key (Debit m) = is_payment key && has_amount m
is_valid_act key (Credit m) = class_digit key == 2 && has_amount m
is_valid_act key (Inquiry m) =
    is_payment key && function_digit key == 0 && m.amount == 0 && is_account m
is_valid_act key (Undo original left) =
    class_digit key == 4 && is_valid_key original && is_payment original && original.acquirer
    == key.acquirer
    && nat_le left most_amount
is_valid_act key (Complete m hold) =
    class_digit key == 2 && function_digit key == 2 && has_amount m && is_hold_for key hold

-- an order that a message can carry
unfoldable pub is_valid : Instruction → Bool
is_valid o = is_valid_key o.key && is_valid_act o.key o.act

-- ---- which orders are one

-- the same digits, zeros in front included
abbrev pub same_pan : AccountNumber → AccountNumber → Bool
same_pan a b = a.digits == b.digits && a.len == b.len

-- the same letters or digits
abbrev pub same_currency : List ℕ → List ℕ → Bool
same_currency a b = bytes_eq a b

-- the same amount of one currency on one account
abbrev pub same_money : Money → Money → Bool
same_money a b = same_pan a.pan b.pan && a.amount == b.amount && same_currency a.currency b.currency

-- the same is asked
abbrev pub same_act : Act → Act → Bool
same_act (Debit a) (Debit b) = same_money a b
same_act (Credit a) (Credit b) = same_money a b
same_act (Inquiry a) (Inquiry b) = same_money a b
same_act (Undo a l) (Undo b n) = same_key a b && l == n
same_act (Complete a h) (Complete b k) = same_money a b && same_key h k
same_act _ _ = false

-- the same is asked under the same key
abbrev pub same_order : Instruction → Instruction → Bool
same_order a b = same_key a.key b.key && same_act a.act b.act

-- ---- what it is about

-- the account, the amount and the currency; a reversal has none
abbrev pub money_of : Act → Option Money
money_of (Debit m) = Some m
money_of (Credit m) = Some m
money_of (Inquiry m) = Some m
money_of (Undo original left) = None
money_of (Complete m hold) = Some m

-- the amount that an order names
abbrev pub amount_of : Act → ℕ
amount_of (Debit m) = m.amount
amount_of (Credit m) = m.amount
amount_of (Inquiry m) = m.amount
amount_of (Undo k left) = left
amount_of (Complete m hold) = m.amount
