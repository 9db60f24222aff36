-- The response to a message.
use Rattle.std.specs.Prelude.{◌≡◌, ℕ, ℤ, pos, int_lt, unsigned_abs, ◌+◌, Bool, true, false, ◌==◌, ◌&&◌, ◌||◌, nat_le, nat_lt, if◌then◌else◌, List, ◌∷◌, ◌++◌, take, codes, Option, Some, None, option_map}
use Rattle.iso_wire.specs.Contents.{Contents}
use Rattle.iso_wire.specs.Decimal.{decimal}
use Rattle.iso_wire.specs.Elements.{value_in}
use Rattle.iso_order.specs.declared.act.Act.{Act}
use Rattle.iso_order.specs.declared.act.Act.TheVariants.{Debit, Credit, Inquiry, Undo, Complete}
use Rattle.iso_order.specs.declared.verdict.Verdict.{Verdict}
use Rattle.iso_order.specs.declared.verdict.Verdict.TheVariants.{Order, Reply, Silent}
use Rattle.iso_order.specs.Fields.{class, text, base_of}
use Rattle.iso_order.specs.Listing.{elements_from}
use Rattle.iso_order.specs.Order.{most_amount}
use Rattle.iso_order.specs.Outcome.{Outcome}
use Rattle.iso_order.specs.Verdict.{verdict}

-- ---- each element

-- its type: the next function, and no repeat (ISO 8583:1987, message type identifier)
abbrev pub response_mti : ℕ → ℕ
response_mti mti = base_of mti + 10

-- the elements that are given back
abbrev pub is_echoed : ℕ → Bool
is_echoed n =
    n == 2 || n == 3 || n == 4 || n == 7 || n == 11 || n == 12 || n == 13 || n == 32 || n == 33 || n
    == 37
    || n == 41 || n == 42 || n == 49 || n == 70 || n == 90

-- a payment is granted, and has a place in the journal
abbrev pub is_approved : Contents → Outcome → Bool
is_approved m a = a.code == 0 && nat_lt 0 a.seq && (class m == 1 || class m == 2)

-- its place in six digits (element 38, authorization identification response)
abbrev pub approval : Contents → Outcome → Option (List ℕ)
approval m a = if is_approved m a then Some (decimal 6 a.seq) else None

-- credit, or debit below zero
abbrev pub sign : ℤ → ℕ
sign z = if int_lt z (pos 0) then 68 else 67

-- what is available: account type 00, amount type 02, currency, sign and amount (element 54, additional amounts)
abbrev pub additional : List ℕ → ℤ → List ℕ
additional currency z = codes "0002" ++ (currency ++ sign z ∷ decimal 12 (unsigned_abs z))

-- what is available as element 54 says it, where the answer shows it
abbrev pub balance : Contents → Outcome → Option (List ℕ)
balance m a = option_map (additional (text m 49)) a.shown

-- the value of an element of the response, if it has it; element 39 is the response code in two digits
abbrev pub element : Contents → Outcome → ℕ → Option (List ℕ)
element m a n =
    if n == 38 then approval m a
    else if n == 39 then Some (decimal 2 a.code)
    else if n == 54 then balance m a
    else if is_echoed n then value_in m.elements n
    else None

-- ---- all elements

-- the response: of all numbers from 2 to 128, the elements that have a value
unfoldable pub response : Contents → Outcome → Contents
response m a = record { mti = response_mti m.mti; elements = elements_from (element m a) 2 127 }

-- a message of the type of the whole, with the first of its elements
abbrev pub IsBegun : Contents → Contents → Type 0
IsBegun made whole = (count : ℕ) × (made ≡ record whole { elements = take count whole.elements })

-- ---- what can be shown

-- the order is an inquiry
abbrev pub is_inquiry_order : Act → Bool
is_inquiry_order (Inquiry m) = true
is_inquiry_order (Debit m) = false
is_inquiry_order (Credit m) = false
is_inquiry_order (Undo k left) = false
is_inquiry_order (Complete m hold) = false

-- the message asks for what is available
abbrev pub is_balance_inquiry : Verdict → Bool
is_balance_inquiry (Order o) = is_inquiry_order o.act
is_balance_inquiry (Reply code) = false
is_balance_inquiry Silent = false

-- an amount of at most twelve digits, shown in answer to an inquiry alone
abbrev pub is_showable : Contents → Option ℤ → Bool
is_showable m None = true
is_showable m (Some z) = nat_le (unsigned_abs z) most_amount && is_balance_inquiry (verdict m)
