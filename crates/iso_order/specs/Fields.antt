-- What is read in a message.
use Rattle.std.specs.Prelude.{ℕ, Bool, ◌+◌, ◌*◌, ◌/◌, ◌%◌, ◌==◌, ◌&&◌, ◌||◌, nat_le, not, if◌then◌else◌, unwrap_or, Option, Some, None, List, [], length, take, drop}
use Rattle.iso_parts.specs.Mti.{is_answered, first_origin}
use Rattle.iso_wire.specs.Contents.{Contents}
use Rattle.iso_wire.specs.Elements.{has, value_in}
use Rattle.iso_order.specs.declared.act.Money.{Money}
use Rattle.iso_order.specs.declared.key.TxKey.{TxKey}
use Rattle.iso_wire.specs.Decimal.{are_digits, number}

-- ---- its type: version, class, function and origin (ISO 8583:1987, message type identifier)

-- the edition of the standard: 0 is that of 1987
abbrev pub version : Contents → ℕ
version m = m.mti / 1000

-- what it is about: 1 authorizes, 2 moves money, 4 takes back, 8 is of the network
abbrev pub class : Contents → ℕ
class m = m.mti / 100 % 10

-- what it does: it requests, advises or responds
abbrev pub function : Contents → ℕ
function m = m.mti / 10 % 10

-- who sent it, and whether it is a repeat
abbrev pub origin : Contents → ℕ
origin m = m.mti % 10

-- the type without a repeat: its origin is that of the first delivery
abbrev pub base_of : ℕ → ℕ
base_of mti = mti / 10 * 10 + first_origin (mti % 10)

-- ---- its elements

-- the value of an element, nothing where it is missing
abbrev pub text : Contents → ℕ → List ℕ
text m n = unwrap_or (value_in m.elements n) []

-- the number of some of the digits of a value
abbrev pub number_from : ℕ → ℕ → List ℕ → ℕ
number_from from count v = number (take count (drop from v))

-- the time, the trace number and the acquirer are there (elements 7, 11, 32)
abbrev pub has_key : Contents → Bool
has_key m = are_digits 10 10 (text m 7) && are_digits 6 6 (text m 11) && are_digits 1 11 (text m 32)

-- the key of its transaction
abbrev pub key_of : Contents → TxKey
key_of m = record {
  base = base_of m.mti;
  stan = number (text m 11);
  sent = number (text m 7);
  acquirer = number (text m 32);
}

-- the money that it speaks of, but for the amount (elements 2, 49)
abbrev pub message_money : Contents → ℕ → Money
message_money m amount = record {
  pan = record { digits = number (text m 2); len = length (text m 2) };
  amount = amount;
  currency = text m 49;
}

-- ---- the transaction that a reversal names (element 90, original data elements)

-- the message type, the trace number, the time and the acquirer
abbrev pub original_mti : Contents → ℕ
original_mti m = number_from 0 4 (text m 90)

-- the trace number that is named
abbrev pub original_stan : Contents → ℕ
original_stan m = number_from 4 6 (text m 90)

-- the transmission date and time that are named
abbrev pub original_sent : Contents → ℕ
original_sent m = number_from 10 10 (text m 90)

-- the acquirer that is named, in eleven digits
abbrev pub original_acquirer : Contents → ℕ
original_acquirer m = number_from 20 11 (text m 90)

-- a request or an advice of class 1 or 2, or a repeat of one
abbrev pub is_original : ℕ → Bool
is_original mti = mti / 1000 == 0 && (mti / 100 % 10 == 1 || mti / 100 % 10 == 2)
    && is_answered (mti / 10 % 10) && nat_le (mti % 10) 5

-- no acquirer, or the message's own
abbrev pub is_own : Contents → Bool
is_own m = original_acquirer m == 0 || original_acquirer m == number (text m 32)

-- its key, under the message's own acquirer
abbrev pub original_of : Contents → TxKey
original_of m = record {
  base = base_of (original_mti m);
  stan = original_stan m;
  sent = original_sent m;
  acquirer = number (text m 32);
}

-- ---- the hold that an advice of class 2 completes (element 90)

-- an advice of class 2 that names another transaction
abbrev pub is_completion : Contents → Bool
is_completion m = class m == 2 && function m == 2 && has m.elements 90

-- a request or an advice of class 1, or a repeat of one
abbrev pub is_hold : ℕ → Bool
is_hold mti = is_original mti && mti / 100 % 10 == 1

-- the key of that hold, where one is named
abbrev pub hold_of : Contents → Option TxKey
hold_of m = if is_completion m then Some (original_of m) else None

-- ---- what a reversal leaves (element 95, replacement amounts)

-- nothing, or 42 bytes of which the first twelve are digits
abbrev pub is_replacement : Contents → Bool
is_replacement m =
    not (has m.elements 95) || (length (text m 95) == 42 && are_digits 12 12 (take 12 (text m 95)))

-- the number of those twelve digits, 0 without them
abbrev pub left_of : Contents → ℕ
left_of m = if has m.elements 95 then number (take 12 (text m 95)) else 0

-- ---- what is asked of an account (element 3, processing code)

-- its first two digits
abbrev pub kind : Contents → ℕ
kind m = number_from 0 2 (text m 3)

-- goods and services (00), or cash (01)
abbrev pub is_debit : ℕ → Bool
is_debit k = k == 0 || k == 1

-- returns (20), or deposits (21)
abbrev pub is_credit : ℕ → Bool
is_credit k = k == 20 || k == 21

-- what is available (31)
abbrev pub is_inquiry : ℕ → Bool
is_inquiry k = k == 31
