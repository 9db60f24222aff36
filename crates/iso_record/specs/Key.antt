-- A key in 31 digits.
use Rattle.std.specs.Prelude.{◌≡◌, ℕ, true, List, ◌++◌, take, drop, Option, Some, None, if◌then◌else◌}
use Rattle.iso_wire.specs.Decimal.{decimal, number_in}
use Rattle.iso_order.specs.declared.key.TxKey.{TxKey}
use Rattle.iso_order.specs.Key.{is_valid_key}

-- the message type in 4 digits, the trace number in 6, the time in 10, the acquirer in 11
unfoldable pub key_bytes : TxKey → List ℕ
key_bytes k = decimal 4 k.base ++ (decimal 6 k.stan ++ (decimal 10 k.sent ++ decimal 11 k.acquirer))

-- the number in so many digits at a place
abbrev pub number_at : List ℕ → ℕ → ℕ → Option ℕ
number_at text at len = number_in len len (take len (drop at text))

-- a key that an order can have
abbrev pub valid_key : TxKey → Option TxKey
valid_key k = if is_valid_key k then Some k else None

-- the key of four numbers
abbrev pub key_by : Option ℕ → Option ℕ → Option ℕ → Option ℕ → Option TxKey
key_by (Some base) (Some stan) (Some sent) (Some acquirer) =
    valid_key (record { base = base; stan = stan; sent = sent; acquirer = acquirer })
key_by _ _ _ _ = None

-- the key that 31 digits are, whatever follows
abbrev pub key_of : List ℕ → Option TxKey
key_of text =
    key_by (number_at text 0 4) (number_at text 4 6) (number_at text 10 10) (number_at text 20 11)

-- each valid key comes back, whatever follows
abbrev pub KeysComeBack : Type 0
KeysComeBack = (k : TxKey) (rest : List ℕ) → is_valid_key k ≡ true
    → key_of (key_bytes k ++ rest) ≡ Some k
