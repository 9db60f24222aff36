-- The message that asks for an order, and what it keeps.
use Rattle.std.specs.Prelude.{◌≡◌, ℕ, ◌-◌, ◌^◌, ◌<◌, ◌≤◌, ◌⊎◌, ◌==◌, if◌then◌else◌, List, [], ◌∷◌, ◌++◌, Option, Some, None, option_map, IsTrue, codes}
use Rattle.iso_parts.specs.declared.digits.Digits.{Digits}
use Rattle.iso_table.specs.Edition87.{IsEdition87}
use Rattle.iso_table.specs.Layout.{Layout}
use Rattle.iso_wire.specs.Contents.{Contents}
use Rattle.iso_wire.specs.Decimal.{decimal}
use Rattle.iso_wire.specs.OneSpelling.{WellFormed}
use Rattle.iso_wire.specs.Refusal.{message_refusal}
use Rattle.iso_order.specs.declared.act.Act.{Act}
use Rattle.iso_order.specs.declared.act.Act.TheVariants.{Debit, Credit, Inquiry, Undo, Complete}
use Rattle.iso_order.specs.declared.act.Money.{Money}
use Rattle.iso_order.specs.declared.key.TxKey.{TxKey}
use Rattle.iso_order.specs.declared.verdict.Verdict.TheVariants.{Order}
use Rattle.iso_order.specs.Listing.{elements_from}
use Rattle.iso_order.specs.Order.{Instruction, is_valid, money_of}
use Rattle.iso_order.specs.Verdict.{verdict}

-- ---- what an act tells

-- goods and services, a return, or a balance inquiry (ISO 8583:1987, element 3, processing code)
abbrev pub processing_code : Act → Option ℕ
processing_code (Debit m) = Some 0
processing_code (Credit m) = Some 200000
processing_code (Inquiry m) = Some 310000
processing_code (Undo k left) = None
processing_code (Complete m hold) = Some 0

-- the amount that is moved: an inquiry moves none (element 4, amount, transaction)
abbrev pub moved_amount : Act → Option ℕ
moved_amount (Debit m) = Some m.amount
moved_amount (Credit m) = Some m.amount
moved_amount (Inquiry m) = None
moved_amount (Undo k left) = None
moved_amount (Complete m hold) = Some m.amount

-- the transaction that is reversed, or the hold that is completed
abbrev pub named_by : Act → Option TxKey
named_by (Debit m) = None
named_by (Credit m) = None
named_by (Inquiry m) = None
named_by (Undo k left) = Some k
named_by (Complete m hold) = Some hold

-- what a reversal leaves, where it leaves a part
abbrev pub partial_left : Act → Option ℕ
partial_left (Debit m) = None
partial_left (Credit m) = None
partial_left (Inquiry m) = None
partial_left (Undo k left) = if left == 0 then None else Some left
partial_left (Complete m hold) = None

-- ---- values

-- digits without the zeros before them, one digit at least
abbrev pub shortest : List ℕ → List ℕ
shortest [] = []
shortest (d ∷ []) = d ∷ []
shortest (d ∷ e ∷ ds) = if d == 48 then shortest (e ∷ ds) else d ∷ e ∷ ds

-- the acquirer, without zeros before it (element 32, acquiring institution identification code)
unfoldable pub acquirer_code : ℕ → List ℕ
acquirer_code acquirer = shortest (decimal 11 acquirer)

-- the account number, with the zeros before it that it has (element 2, primary account number)
abbrev pub account_number : Money → List ℕ
account_number m = decimal m.pan.len m.pan.digits

-- type, trace number, time, acquirer, and no forwarding institution (element 90, original data elements)
abbrev pub original_data : TxKey → List ℕ
original_data k = decimal 4 k.base ++ decimal 6 k.stan ++ decimal 10 k.sent ++ decimal 11 k.acquirer
    ++ decimal 11 0

-- no fee: a debit of eight zeros
abbrev pub no_fee : List ℕ
no_fee = codes "D" ++ decimal 8 0

-- the actual amount, no settlement amount and no fees (element 95, replacement amounts)
abbrev pub replacement_amounts : ℕ → List ℕ
replacement_amounts left = decimal 12 left ++ decimal 12 0 ++ no_fee ++ no_fee

-- ---- the message

-- the value of an element of the request for an act under a key, if it has it
abbrev pub request_value : TxKey → Act → ℕ → Option (List ℕ)
request_value key act n =
    if n == 2 then option_map account_number (money_of act)
    else if n == 3 then option_map (decimal 6) (processing_code act)
    else if n == 4 then option_map (decimal 12) (moved_amount act)
    else if n == 7 then Some (decimal 10 key.sent)
    else if n == 11 then Some (decimal 6 key.stan)
    else if n == 32 then Some (acquirer_code key.acquirer)
    else if n == 49 then option_map (λ m. m.currency) (money_of act)
    else if n == 90 then option_map original_data (named_by act)
    else if n == 95 then option_map replacement_amounts (partial_left act)
    else None

-- the request: under the key's message type, of all numbers from 2 to 128 the elements that have a value
unfoldable pub request : Instruction → Contents
request o = record { mti = o.key.base; elements = elements_from (request_value o.key o.act) 2 127 }

-- ---- what it keeps

-- the message asks for the order
abbrev pub AsksFor : Contents → Instruction → Type 0
AsksFor m o = verdict m ≡ Order o

-- neither table of the 1987 edition refuses the message
abbrev pub FitsEdition87 : Contents → Type 0
FitsEdition87 m = (d : Digits) (t : Layout) → IsEdition87 d t → message_refusal t m ≡ None

-- the request for an order asks for that very order
abbrev pub RequestsAsk : Type 0
RequestsAsk = (o : Instruction) → IsTrue (is_valid o) → AsksFor (request o) o

-- the built-in tables refuse no request
abbrev pub RequestsFit : Type 0
RequestsFit = (o : Instruction) → IsTrue (is_valid o) → FitsEdition87 (request o)

-- each request is well formed
abbrev pub RequestsAreWellFormed : Type 0
RequestsAreWellFormed = (o : Instruction) → IsTrue (is_valid o) → WellFormed (request o)

-- an acquirer's number in the digits that it needs is its code, and these are at most eleven
abbrev pub AcquirersInOwnDigits : Type 0
AcquirersInOwnDigits = (digits acquirer : ℕ) → 1 ≤ digits → acquirer ≤ 99999999999
    → acquirer < 10 ^ digits → (digits ≡ 1) ⊎ (10 ^ (digits - 1) ≤ acquirer)
    → (digits ≤ 11) × (acquirer_code acquirer ≡ decimal digits acquirer)
