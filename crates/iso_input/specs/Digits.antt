-- Hexadecimal digits with their places, and the bytes that they write.
use Rattle.std.specs.Prelude.{ℕ, ◌+◌, ◌*◌, ◌==◌, ◌||◌, Bool, List, [], ◌∷◌, ◌++◌, Option, Some, None, Result, Ok, Err, if◌then◌else◌}
use Rattle.hex.specs.Hex.{hex_digit_value}
use Rattle.iso_input.specs.declared.fault.HexFault.{HexFault}
use Rattle.iso_input.specs.declared.fault.HexFault.TheVariants.{NotDigit, Odd}
use Rattle.iso_input.specs.declared.place.Place.{Place}
use Rattle.iso_input.specs.declared.place.Digit.{Digit}

-- the place behind a byte
abbrev pub behind_byte : Place → ℕ → Place
behind_byte p b = if b == 10 then record { line = p.line + 1; column = 1 }
    else record { line = p.line; column = p.column + 1 }

-- blanks, tabs, ends of lines, commas and colons
abbrev pub is_spacing : ℕ → Bool
is_spacing b = b == 32 || b == 9 || b == 10 || b == 13 || b == 44 || b == 58

-- ---- digits

-- a digit in front of others, if there is no fault
abbrev pub with_digit : Digit → Result (List Digit) HexFault → Result (List Digit) HexFault
with_digit d (Ok ds) = Ok (d ∷ ds)
with_digit d (Err e) = Err e

-- a byte at a place with the digits behind it: a digit if it has a value
abbrev pub digit_or_fault : Place → ℕ → Option ℕ → Result (List Digit) HexFault
    → Result (List Digit) HexFault
digit_or_fault p b None rest = Err (NotDigit p.line p.column b)
digit_or_fault p b (Some v) rest = with_digit (record { value = v; place = p }) rest

-- the digits of a text whose first byte stands at a place, or the first byte that is neither digit nor spacing
abbrev pub digits_at : Place → List ℕ → Result (List Digit) HexFault
digits_at p [] = Ok []
digits_at p (b ∷ bs) = if is_spacing b then digits_at (behind_byte p b) bs
    else digit_or_fault p b (hex_digit_value b) (digits_at (behind_byte p b) bs)

-- ---- bytes

-- bytes behind others, if there is no fault
abbrev pub after : List ℕ → Result (List ℕ) HexFault → Result (List ℕ) HexFault
after first (Ok rest) = Ok (first ++ rest)
after first (Err e) = Err e

-- the bytes that digits write, two each
abbrev pub pairs : List Digit → Result (List ℕ) HexFault
pairs [] = Ok []
pairs (d ∷ []) = Err (Odd d.place.line d.place.column)
pairs (high ∷ low ∷ ds) = after ((16 * high.value + low.value) ∷ []) (pairs ds)

-- the same of digits that were read, or why there are none
abbrev pub pairs_of : Result (List Digit) HexFault → Result (List ℕ) HexFault
pairs_of (Ok ds) = pairs ds
pairs_of (Err e) = Err e

-- the bytes that the digits of a text write, whose first byte stands at a place
abbrev pub bytes_at : Place → List ℕ → Result (List ℕ) HexFault
bytes_at p text = pairs_of (digits_at p text)
