-- The key of a transaction.
use Rattle.std.specs.Prelude.{ℕ, Bool, ◌==◌, ◌&&◌, ◌||◌, ◌/◌, ◌%◌, nat_lt, nat_le}
use Rattle.iso_parts.specs.Mti.{is_answered}
use Rattle.iso_order.specs.declared.key.TxKey.{TxKey}

-- the class digit of the key's message type (ISO 8583:1987, message type identifier)
abbrev pub class_digit : TxKey → ℕ
class_digit k = k.base / 100 % 10

-- the function digit of the key's message type
abbrev pub function_digit : TxKey → ℕ
function_digit k = k.base / 10 % 10

-- the key of a message of version 0 that is answered, of an origin without a repeat (elements 7, 11, 32)
abbrev pub is_valid_key : TxKey → Bool
is_valid_key k =
    nat_lt k.base 1000 && is_answered (function_digit k)
    && (k.base % 10 == 0 || k.base % 10 == 2 || k.base % 10 == 4)
    && nat_le k.stan 999999 && nat_le k.sent 9999999999 && nat_le k.acquirer 99999999999

-- whether two keys are one
abbrev pub same_key : TxKey → TxKey → Bool
same_key a b = a.base == b.base && a.stan == b.stan && a.sent == b.sent && a.acquirer == b.acquirer
