-- Dumps: lines of an offset, bytes, and a column that shows them as text, as xxd, hexdump -C and Wireshark write them.
use Rattle.std.specs.Prelude.{ℕ, ◌+◌, ◌-◌, ◌*◌, ◌^◌, ◌==◌, ◌&&◌, ◌||◌, not, nat_le, min, Bool, false, List, [], ◌∷◌, length, take, drop, unwrap_or, Result, Ok, Err, if◌then◌else◌}
use Rattle.std.specs.List.{fold, prefix_len, slice_split}
use Rattle.hex.specs.Hex.{hex_digit_value, is_hex_digit}
use Rattle.iso_input.specs.declared.fault.HexFault.{HexFault}
use Rattle.iso_input.specs.declared.fault.HexFault.TheVariants.{NotDigit, Gap}
use Rattle.iso_input.specs.declared.place.Place.{Place}
use Rattle.iso_input.specs.Digits.{after, bytes_at}

-- the end of a line
abbrev pub is_newline : ℕ → Bool
is_newline b = b == 10

-- blanks, tabs and carriage returns
abbrev pub is_blank : ℕ → Bool
is_blank b = b == 32 || b == 9 || b == 13

-- blanks and ends of lines
abbrev pub is_white : ℕ → Bool
is_white b = is_blank b || is_newline b

-- the digit 0
abbrev pub is_zero : ℕ → Bool
is_zero b = b == 48

-- what stands between an offset and the bytes: blanks and a colon
abbrev pub is_margin : ℕ → Bool
is_margin b = is_blank b || b == 58

-- what stands behind the front of a list that passes a test
abbrev pub behind : (ℕ → Bool) → List ℕ → List ℕ
behind test l = drop (prefix_len test l) l

-- the first byte passes a test
abbrev pub begins : (ℕ → Bool) → List ℕ → Bool
begins test [] = false
begins test (b ∷ bs) = test b

-- two blanks
abbrev pub begins_gap : List ℕ → Bool
begins_gap [] = false
begins_gap (a ∷ bs) = is_blank a && begins is_blank bs

-- ---- what a dump is

-- a line begins a dump: four or more zeros, a colon or two blanks behind them, and then a digit
abbrev pub begins_dump : List ℕ → Bool
begins_dump l = nat_le 4 (prefix_len is_zero l) && (begins (λ b. b == 58) (behind is_zero l)
    || begins_gap (behind is_zero l)) && begins is_hex_digit (behind is_margin (behind is_zero l))

-- a text is a dump if its first line that isn't blank begins one
abbrev pub is_dump : List ℕ → Bool
is_dump text = begins_dump (behind is_white text)

-- ---- where the text column begins

-- no byte follows, or a blank
abbrev pub ends_byte : List ℕ → Bool
ends_byte [] = not false
ends_byte (b ∷ bs) = is_blank b

-- a byte of two digits, and then a blank or the end
abbrev pub begins_byte : List ℕ → Bool
begins_byte [] = false
begins_byte (a ∷ []) = false
begins_byte (a ∷ b ∷ bs) = is_hex_digit a && is_hex_digit b && ends_byte bs

-- the text column begins behind two blanks. But where the offset has no colon, two blanks behind eight bytes with another
-- byte behind them stand between the halves of a line
abbrev pub begins_column : Bool → ℕ → List ℕ → Bool
begins_column colon digits l =
    begins_gap l && (colon || not (digits == 16) || not (begins_byte (drop 2 l)))

-- how much of a line stands in front of its text column, where so many digits stand before it
abbrev pub column_from : Bool → ℕ → List ℕ → ℕ
column_from colon digits [] = 0
column_from colon digits (b ∷ bs) = if begins_column colon digits (b ∷ bs) then 0
    else 1 + column_from colon (if is_hex_digit b then digits + 1 else digits) bs

-- ---- the bytes of a line

-- the place so many columns further on
abbrev pub further : Place → ℕ → Place
further p n = record { line = p.line; column = p.column + n }

-- the number that hexadecimal digits write, at most 2 ^ 64 - 1
abbrev pub offset_of : List ℕ → ℕ
offset_of digits =
    fold (λ n b. min (16 * n + unwrap_or (hex_digit_value b) 0) (2 ^ 64 - 1)) 0 digits

-- the bytes of a part behind the margin: those in front of the text column
abbrev pub part_bytes : Place → Bool → List ℕ → Result (List ℕ) HexFault
part_bytes p colon l = bytes_at p (take (column_from colon 0 l) l)

-- the bytes of what stands behind an offset
abbrev pub margin_bytes : Place → List ℕ → Result (List ℕ) HexFault
margin_bytes p l =
    part_bytes (further p (prefix_len is_margin l)) (begins (λ b. b == 58) l) (behind is_margin l)

-- the bytes of a line from its offset on, which is to be the count of the bytes before it; none of an empty line
abbrev pub offset_bytes : Place → ℕ → List ℕ → Result (List ℕ) HexFault
offset_bytes p count [] = Ok []
offset_bytes p count (b ∷ bs) =
    let size = prefix_len is_hex_digit (b ∷ bs) in let found = offset_of (take size (b ∷ bs)) in
    if size == 0 then Err (NotDigit p.line p.column b) else if found == count
    then margin_bytes (further p size) (drop size (b ∷ bs)) else Err (Gap p.line count found)

-- the bytes of a line
abbrev pub row_bytes : ℕ → ℕ → List ℕ → Result (List ℕ) HexFault
row_bytes line count l = offset_bytes
    (record { line = line; column = 1 + prefix_len is_blank l }) count (behind is_blank l)

-- ---- the bytes of all lines

-- bytes with those behind them, which depend on how many they are
abbrev pub followed : Result (List ℕ) HexFault → (ℕ → Result (List ℕ) HexFault)
    → Result (List ℕ) HexFault
followed (Ok bytes) rest = after bytes (rest (length bytes))
followed (Err e) rest = Err e

-- the bytes of lines, with the number of the first and the count of the bytes before it
abbrev pub rows : ℕ → ℕ → List (List ℕ) → Result (List ℕ) HexFault
rows line count [] = Ok []
rows line count (l ∷ ls) =
    followed (row_bytes line count l) (λ size. rows (line + 1) (count + size) ls)

-- the bytes of a dump
abbrev pub dump_bytes : List ℕ → Result (List ℕ) HexFault
dump_bytes text = rows 1 0 (slice_split is_newline text)

-- ---- the bytes of a text

-- the bytes that a text of hexadecimal digits stands for, a dump or digits in any spacing
abbrev pub hex_bytes : List ℕ → Result (List ℕ) HexFault
hex_bytes text =
    if is_dump text then dump_bytes text else bytes_at (record { line = 1; column = 1 }) text
