-- An order and its answer in 128 bytes of text. The columns:
--
--   0  31  the key: the message type in 4 digits, the trace number in 6, the time in 10, the acquirer in 11
--  31   1  what is asked: D debit, C credit, I inquiry, U undo, F complete (the final amount)
--  32  31  the key of the transaction that is taken back or completed, else blanks
--  63   2  how many digits the account number has, blanks for an undo
--  65  19  the account number, and blanks behind it
--  84  12  the amount, for an undo what is left
--  96   3  the currency, blanks for an undo
--  99   2  the response code
-- 101   6  the place in the journal
-- 107   1  the sign of the balance that is shown, + or -, a blank where none is
-- 108  19  that balance without its sign, or blanks
-- 127   1  the end of the line
use Rattle.std.specs.Prelude.{◌≡◌, ℕ, ◌-◌, ◌^◌, ◌==◌, ◌&&◌, nat_lt, nat_le, Bool, true, List, [], ◌∷◌, ◌++◌, take, drop, replicate, slice_index, bytes_eq, Option, Some, None, option_map, if◌then◌else◌, ℤ, pos, negsuc, unsigned_abs, codes}
use Rattle.iso_wire.specs.Decimal.{decimal}
use Rattle.iso_log.specs.Slots.{is_whole}
use Rattle.iso_order.specs.declared.key.TxKey.{TxKey}
use Rattle.iso_order.specs.declared.act.Act.{Act}
use Rattle.iso_order.specs.declared.act.Act.TheVariants.{Debit, Credit, Inquiry, Undo, Complete}
use Rattle.iso_order.specs.declared.act.Money.{Money}
use Rattle.iso_order.specs.Order.{Instruction, is_valid, money_of, amount_of, currency_of}
use Rattle.iso_order.specs.Outcome.{Outcome}
use Rattle.iso_order.specs.Pan.{AccountNumber, pan_of}
use Rattle.iso_record.specs.Key.{key_bytes, key_of, number_at}
use Rattle.iso_record.specs.declared.row.Row.{Row}

-- ---- written

-- so many blanks
abbrev pub blanks : ℕ → List ℕ
blanks n = replicate n 32

-- what is asked, by a letter
abbrev pub letter : Act → ℕ
letter (Debit m) = 68
letter (Credit m) = 67
letter (Inquiry m) = 73
letter (Undo original left) = 85
letter (Complete m hold) = 70

-- the key of the transaction that is taken back or completed
abbrev pub other_key : Act → List ℕ
other_key (Debit m) = blanks 31
other_key (Credit m) = blanks 31
other_key (Inquiry m) = blanks 31
other_key (Undo original left) = key_bytes original
other_key (Complete m hold) = key_bytes hold

-- how many digits the account number has
abbrev pub pan_len : Option Money → List ℕ
pan_len (Some m) = decimal 2 m.pan.len
pan_len None = blanks 2

-- an account number, and blanks behind it
abbrev pub pan_text : AccountNumber → List ℕ
pan_text p = decimal p.len p.digits ++ blanks (19 - p.len)

-- the same of an order's money
abbrev pub pan : Option Money → List ℕ
pan (Some m) = pan_text m.pan
pan None = blanks 19

-- the currency of an order's money
abbrev pub currency : Option Money → List ℕ
currency (Some m) = m.currency
currency None = blanks 3

-- an order, in 99 bytes
unfoldable pub order_bytes : Instruction → List ℕ
order_bytes o =
    key_bytes o.key
    ++ (letter o.act ∷ [] ++ (other_key o.act ++ (pan_len (money_of o.act) ++ (pan (money_of o.act)
    ++ (decimal 12 (amount_of o.act) ++ currency (money_of o.act))))))

-- the sign of a balance
abbrev pub sign : Option ℤ → ℕ
sign (Some (pos n)) = 43
sign (Some (negsuc n)) = 45
sign None = 32

-- a number in 19 digits
abbrev pub digits_by : Option ℕ → List ℕ
digits_by (Some n) = decimal 19 n
digits_by None = blanks 19

-- a balance without its sign
abbrev pub size : Option ℤ → List ℕ
size z = digits_by (option_map unsigned_abs z)

-- an answer, in the 29 bytes behind it
unfoldable pub answer_bytes : Outcome → List ℕ
answer_bytes a =
    decimal 2 a.code ++ (decimal 6 a.seq ++ (sign a.shown ∷ [] ++ (size a.shown ++ codes "\n")))

-- an order and its answer, in 128 bytes
unfoldable pub row_bytes : Row → List ℕ
row_bytes r = order_bytes r.order ++ answer_bytes r.answer

-- ---- read

-- so many bytes from a place on
abbrev pub part : List ℕ → ℕ → ℕ → List ℕ
part text at len = take len (drop at text)

-- the account number of so many digits
abbrev pub pan_at : List ℕ → ℕ → Option AccountNumber
pan_at text len = if nat_le len 19 then pan_of (part text 65 len) else None

-- money of its parts
abbrev pub money_by : Option AccountNumber → Option ℕ → Option (List ℕ) → Option Money
money_by (Some p) (Some amount) (Some c) = Some (record { pan = p; amount = amount; currency = c })
money_by _ _ _ = None

-- the account number, where its length is told
abbrev pub pan_by : List ℕ → Option ℕ → Option AccountNumber
pan_by text (Some len) = pan_at text len
pan_by text None = None

-- the money that is told
abbrev pub money_in : List ℕ → Option Money
money_in text = money_by (pan_by text (number_at text 63 2)) (number_at text 84 12)
    (currency_of (part text 96 3))

-- what is taken back, and what is left of it
abbrev pub undo_by : Option TxKey → Option ℕ → Option Act
undo_by (Some k) (Some left) = Some (Undo k left)
undo_by _ _ = None

-- what is completed, by which amount
abbrev pub complete_by : Option Money → Option TxKey → Option Act
complete_by (Some m) (Some k) = Some (Complete m k)
complete_by _ _ = None

-- what is asked with money
abbrev pub with_money : (Money → Act) → Option Money → Option Act
with_money f (Some m) = Some (f m)
with_money f None = None

-- what is asked, by its letter
abbrev pub act_by : ℕ → List ℕ → Option Act
act_by c text =
    if c == 68 then with_money Debit (money_in text)
    else if c == 67 then with_money Credit (money_in text)
    else if c == 73 then with_money Inquiry (money_in text)
    else if c == 85 then undo_by (key_of (part text 32 31)) (number_at text 84 12)
    else if c == 70 then complete_by (money_in text) (key_of (part text 32 31))
    else None

-- an order, if it is one
abbrev pub valid_order : TxKey → Act → Option Instruction
valid_order k a =
    let o : Instruction = record { key = k; act = a } in if is_valid o then Some o else None

-- the order of its parts
abbrev pub order_by : Option TxKey → Option Act → Option Instruction
order_by (Some k) (Some a) = valid_order k a
order_by _ _ = None

-- the order that is told
abbrev pub order_in : List ℕ → Option Instruction
order_in text = order_by (key_of (part text 0 31)) (act_by (slice_index text 31) text)

-- a sign and a number, if an `i64` can be that
abbrev pub signed : ℕ → ℕ → Option ℤ
signed c n =
    if c == 43 then (if nat_lt n (2 ^ 63) then Some (pos n) else None)
    else if c == 45 then (if nat_le 1 n && nat_le n (2 ^ 63) then Some (negsuc (n - 1)) else None)
    else None

-- the balance: none where the sign is a blank
abbrev pub signed_by : ℕ → Option ℕ → Option ℤ
signed_by c (Some n) = signed c n
signed_by c None = None

-- the balance that is shown
abbrev pub shown_in : List ℕ → Option ℤ
shown_in text = signed_by (slice_index text 107) (number_at text 108 19)

-- the answer of its parts
abbrev pub answer_by : Option ℕ → Option ℕ → Option ℤ → Option Outcome
answer_by (Some code) (Some seq) shown = Some (record { code = code; seq = seq; shown = shown })
answer_by _ _ _ = None

-- the answer that is told
abbrev pub answer_in : List ℕ → Option Outcome
answer_in text = answer_by (number_at text 99 2) (number_at text 101 6) (shown_in text)

-- only the very bytes that are written
abbrev pub row_if_same : List ℕ → Option Instruction → Option Outcome → Option Row
row_if_same text (Some o) (Some a) =
    let r : Row = record { order = o; answer = a } in
    if bytes_eq (row_bytes r) text then Some r else None
row_if_same _ _ _ = None

-- the order and the answer that 128 bytes are
unfoldable pub row_in : List ℕ → Option Row
row_in text = row_if_same text (order_in text) (answer_in text)

-- ---- what holds

-- a balance that an `i64` can be
abbrev pub is_shown : Option ℤ → Bool
is_shown (Some (pos n)) = nat_lt n (2 ^ 63)
is_shown (Some (negsuc n)) = nat_lt n (2 ^ 63)
is_shown None = true

-- an answer that can be written
abbrev pub is_answer : Outcome → Bool
is_answer a = nat_le a.code 99 && nat_le a.seq 999999 && is_shown a.shown

-- an order and an answer that can be written
abbrev pub is_row : Row → Bool
is_row r = is_valid r.order && is_answer r.answer

-- each row comes back,
abbrev pub RowsComeBack : Type 0
RowsComeBack = (r : Row) → is_row r ≡ true → row_in (row_bytes r) ≡ Some r

-- has 128 bytes, none of them zero,
abbrev pub RowsAreWhole : Type 0
RowsAreWhole = (r : Row) → is_row r ≡ true → is_whole (row_bytes r) ≡ true

-- and nothing else is read as one
abbrev pub NothingElse : Type 0
NothingElse = (text : List ℕ) (r : Row) → row_in text ≡ Some r → row_bytes r ≡ text
