-- Message types: four decimal digits, for version, class, function and origin (ISO 8583:1987, message type identifier).
use Rattle.std.specs.Prelude.{ℕ, ◌+◌, ◌-◌, ◌*◌, ◌/◌, ◌%◌, ◌==◌, ◌&&◌, ◌||◌, nat_le, Bool, List, [], ◌∷◌, Option, Some, None, if◌then◌else◌}
use Rattle.iso_parts.specs.declared.digits.Digits.{Digits}
use Rattle.iso_parts.specs.declared.digits.Digits.TheVariants.{Ascii, Bcd}
use Rattle.iso_parts.specs.Class.{is_digit}
use Rattle.iso_parts.specs.declared.mti.Mti.{Mti}
use Rattle.iso_parts.specs.declared.mti.MtiClass.{MtiClass}
use Rattle.iso_parts.specs.declared.mti.MtiClass.TheVariants.{Authorization, Financial, FileAction, Reversal, Reconciliation, Administrative, FeeCollection, NetworkManagement, Reserved}

-- the four digits
abbrev pub digits : Mti → ℕ × ℕ × ℕ × ℕ
digits m = (m.version, m.class, m.function, m.origin)

-- the number that the digits write
abbrev pub mti_number : Mti → ℕ
mti_number m = 1000 * m.version + 100 * m.class + 10 * m.function + m.origin

-- how many bytes the digits take
abbrev pub mti_size : Digits → ℕ
mti_size Ascii = 4
mti_size Bcd = 2

-- the digits of a number below 10000
abbrev pub type_digits : ℕ → Option (ℕ × ℕ × ℕ × ℕ)
type_digits n = if nat_le n 9999 then Some (n / 1000, n / 100 % 10, n / 10 % 10, n % 10) else None

-- the digits that a text of four ASCII digits writes
abbrev pub digits_in : List ℕ → Option (ℕ × ℕ × ℕ × ℕ)
digits_in (a ∷ b ∷ c ∷ d ∷ []) =
    if is_digit a && is_digit b && is_digit c && is_digit d
    then Some (a - 48, b - 48, c - 48, d - 48) else None
digits_in other = None

-- what the class digit means
abbrev pub class_of : ℕ → MtiClass
class_of n =
    if n == 1 then Authorization
    else if n == 2 then Financial
    else if n == 3 then FileAction
    else if n == 4 then Reversal
    else if n == 5 then Reconciliation
    else if n == 6 then Administrative
    else if n == 7 then FeeCollection
    else if n == 8 then NetworkManagement
    else Reserved n

-- a request and an advice have a response
abbrev pub is_answered : ℕ → Bool
is_answered function = function == 0 || function == 2

-- the origin of the first delivery, of a repeat too
abbrev pub first_origin : ℕ → ℕ
first_origin origin = origin - origin % 2

-- the digits of the base: no repeat
abbrev pub base_digits : Mti → ℕ × ℕ × ℕ × ℕ
base_digits m = (m.version, m.class, m.function, first_origin m.origin)

-- the digits of the response, where there is one
abbrev pub response_digits : Mti → Option (ℕ × ℕ × ℕ × ℕ)
response_digits m =
    if is_answered m.function then Some (m.version, m.class, m.function + 1, first_origin m.origin)
    else None
