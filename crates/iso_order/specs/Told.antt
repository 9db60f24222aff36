-- What a response tells of a transaction.
use Rattle.std.specs.Prelude.{◌≡◌, ℕ, ◌-◌, ◌==◌, ◌&&◌, ◌||◌, ◌≤◌, nat_le, Bool, if◌then◌else◌, Option, Some, None}
use Rattle.iso_wire.specs.Contents.{Contents}
use Rattle.iso_order.specs.declared.key.TxKey.{TxKey}
use Rattle.iso_order.specs.declared.told.Told.{Told}
use Rattle.iso_order.specs.declared.verdict.Verdict.TheVariants.{Order}
use Rattle.iso_order.specs.Fields.{version, class, function, origin, text, base_of, has_key, key_of}
use Rattle.iso_order.specs.Order.{Instruction}
use Rattle.iso_order.specs.Outcome.{Outcome}
use Rattle.iso_order.specs.Response.{response}
use Rattle.iso_wire.specs.Decimal.{are_digits, number}
use Rattle.iso_order.specs.Verdict.{verdict}

-- a response of version 0, class 1, 2 or 4 and origin 0 to 5 (ISO 8583:1987, message type identifier)
abbrev pub is_answer : Contents → Bool
is_answer m =
    version m
    == 0 && (class m == 1 || class m == 2 || class m == 4) && (function m == 1 || function m == 3)
    && nat_le (origin m) 5

-- the type of the request or advice that it answers, without a repeat: the function before its own
abbrev pub answered_base : ℕ → ℕ
answered_base mti = base_of mti - 10

-- the key of the transaction that it answers (elements 7, 11, 32)
abbrev pub answered_key : Contents → TxKey
answered_key m = record (key_of m) { base = answered_base m.mti }

-- the key, and the response code (element 39), where it has them
abbrev pub told_of : Contents → Option Told
told_of m =
    if is_answer m && has_key m && are_digits 2 2 (text m 39)
    then Some (record { key = answered_key m; code = number (text m 39) })
    else None

-- a response to an order tells the order's key and the code of the answer
abbrev pub ResponsesTell : Type 0
ResponsesTell = (m : Contents) (a : Outcome) (o : Instruction) → verdict m ≡ Order o → a.code ≤ 99
    → told_of (response m a) ≡ Some (record { key = o.key; code = a.code })
