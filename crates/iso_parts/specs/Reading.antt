-- Reading a part from the front of bytes: the length before it, and then its body.
use Rattle.std.specs.Prelude.{◌≡◌, ◌≢◌, ℕ, ◌++◌, Option, Some, None, ◌+◌, ◌*◌, ◌/◌, ◌%◌, ◌==◌, ◌||◌, nat_lt, List, [], ◌∷◌, length, take, drop, reverse, codes, Result, Ok, Err, if◌then◌else◌}
use Rattle.hex.specs.Hex.{decode_of}
use Rattle.hex.specs.declared.error.FromHexError.{FromHexError}
use Rattle.iso_parts.specs.declared.encoding.Coding.{Coding}
use Rattle.iso_parts.specs.declared.encoding.Coding.TheVariants as codings
use Rattle.iso_parts.specs.declared.digits.Digits.TheVariants as digits
use Rattle.iso_parts.specs.declared.prefix.Length.{Length}
use Rattle.iso_parts.specs.declared.prefix.Length.TheVariants as lengths
use Rattle.iso_parts.specs.declared.padding.Pad.{Pad}
use Rattle.iso_parts.specs.declared.padding.Pad.TheVariants as pads
use Rattle.iso_parts.specs.declared.spec.FieldSpec.{FieldSpec}
use Rattle.iso_parts.specs.declared.fault.FieldFault.{FieldFault}
use Rattle.iso_parts.specs.declared.fault.FieldFault.TheVariants.{BadLengthDigits, LengthOver, BadFiller, BadHex, NotInClass, Memory}
use Rattle.iso_parts.specs.declared.field.Step.{Step}
use Rattle.iso_parts.specs.declared.field.Step.TheVariants as steps
use Rattle.iso_parts.specs.Class.{is_in_class}
use Rattle.iso_parts.specs.Digits.{four_digits}
use Rattle.iso_parts.specs.Part.{characters}

infixl 10 ◌>>=◌
-- a step, and the next one where the first gave something
abbrev pub ◌>>=◌ : {A B : Type 0} → Result A FieldFault → (A → Result B FieldFault)
    → Result B FieldFault
(Ok x) >>= f = f x
(Err e) >>= f = Err e

-- ---- the two pieces of a part, each when it is whole

-- how many bytes the length takes
abbrev pub prefix_size : Length → ℕ
prefix_size lengths.Fixed = 0
prefix_size (lengths.LL digits.Ascii) = 2
prefix_size (lengths.LL digits.Bcd) = 1
prefix_size (lengths.LLL digits.Ascii) = 3
prefix_size (lengths.LLL digits.Bcd) = 2
prefix_size (lengths.LLLL digits.Ascii) = 4
prefix_size (lengths.LLLL digits.Bcd) = 2

-- the count, or that its digits are bad
abbrev pub or_bad_length : Option ℕ → Result ℕ FieldFault
or_bad_length (Some n) = Ok n
or_bad_length None = Err BadLengthDigits

-- the number of the four characters of a length
abbrev pub number_of : List ℕ → Result ℕ FieldFault
number_of (k ∷ h ∷ t ∷ o ∷ []) = or_bad_length (four_digits k h t o)
number_of other = Err BadLengthDigits

-- the count that the digits of a length tell, with zeros before fewer than four; under BCD three digits have a 0 before them
abbrev pub count_of : Length → ℕ → List ℕ → Result ℕ FieldFault
count_of lengths.Fixed max p = Ok max
count_of (lengths.LL digits.Ascii) max p = number_of (codes "00" ++ p)
count_of (lengths.LL digits.Bcd) max p = number_of (codes "00" ++ characters p)
count_of (lengths.LLL digits.Ascii) max p = number_of (codes "0" ++ p)
count_of (lengths.LLLL digits.Ascii) max p = number_of p
count_of (lengths.LLLL digits.Bcd) max p = number_of (characters p)
count_of (lengths.LLL digits.Bcd) max p = number_after_zero (characters p)
  where
    number_after_zero : List ℕ → Result ℕ FieldFault
    number_after_zero (z ∷ rest) = if z == 48 then number_of (z ∷ rest) else Err BadLengthDigits
    number_after_zero [] = Err BadLengthDigits

-- the count that a whole length tells
abbrev pub prefix_of : FieldSpec → List ℕ → Result ℕ FieldFault
prefix_of s p = do
  n ← count_of s.length s.max p
  if nat_lt s.max n then Err LengthOver else Ok n

-- how many bytes n characters take
abbrev pub body_size : Coding → ℕ → ℕ
body_size codings.Ascii n = n
body_size codings.Raw n = n
body_size codings.Bcd n = (n + 1) / 2
body_size codings.HexText n = 2 * n

-- the characters behind the filler
abbrev pub behind_filler : List ℕ → Result (List ℕ) FieldFault
behind_filler [] = Err BadFiller
behind_filler (f ∷ w) = if f == 48 || f == 63 then Ok w else Err BadFiller

-- the characters, or that the hexadecimal digits are bad
abbrev pub or_bad_hex : Result (List ℕ) FromHexError → Result (List ℕ) FieldFault
or_bad_hex (Ok w) = Ok w
or_bad_hex (Err e) = Err BadHex

-- the n characters that a whole body stands for
abbrev pub text_of : Coding → ℕ → List ℕ → Result (List ℕ) FieldFault
text_of codings.Ascii n b = Ok b
text_of codings.Raw n b = Ok b
text_of codings.Bcd n b = if n % 2 == 1 then behind_filler (characters b) else Ok (characters b)
text_of codings.HexText n b = or_bad_hex (decode_of b)

-- the list without the pads at its front
abbrev pub without_front : ℕ → List ℕ → List ℕ
without_front p [] = []
without_front p (x ∷ xs) = if x == p then without_front p xs else x ∷ xs

-- the characters without their padding
abbrev pub without_padding : Pad → List ℕ → List ℕ
without_padding pads.None w = w
without_padding (pads.Left p) w = without_front p w
without_padding (pads.Right p) w = reverse (without_front p (reverse w))

-- the value without its padding, if it is in the class
abbrev pub value_of : FieldSpec → List ℕ → Result (List ℕ) FieldFault
value_of s w = if is_in_class s.class (without_padding s.pad w) then Ok (without_padding s.pad w)
    else Err NotInClass

-- the value that a whole body of n characters tells
abbrev pub body_of : FieldSpec → ℕ → List ℕ → Result (List ℕ) FieldFault
body_of s n b = text_of s.coding n b >>= value_of s

-- ---- a part from the front of bytes

-- a value and how many bytes it takes; or that bytes are missing; or a fault
pub data FieldReading : Type 0 where
  got : List ℕ → ℕ → FieldReading
  more : FieldReading
  fault : FieldFault → FieldReading

-- what is read once the body is whole
abbrev pub at_body : ℕ → Result (List ℕ) FieldFault → FieldReading
at_body used (Ok v) = got v used
at_body used (Err e) = fault e

-- what is read once the length is whole
abbrev pub at_prefix : FieldSpec → List ℕ → Result ℕ FieldFault → FieldReading
at_prefix s b (Err e) = fault e
at_prefix s b (Ok n) =
    let front = prefix_size s.length in
    let size = body_size s.coding n in
    if nat_lt (length b) (front + size) then more
    else at_body (front + size) (body_of s n (take size (drop front b)))

-- what is read of the part that the bytes begin with
abbrev pub part_at : FieldSpec → List ℕ → FieldReading
part_at s b =
    let front = prefix_size s.length in
    if nat_lt (length b) front then more else at_prefix s b (prefix_of s (take front b))

-- ---- what functions answer

-- a function appended the value of the part at the front, and says how many bytes it takes; or what else was read, and nothing was changed
abbrev pub DecodesValue : List ℕ → List ℕ → Result (Option ℕ) FieldFault → FieldReading → Type 0
DecodesValue old new (Ok (Some used)) o = (value : List ℕ) × (o ≡ got value used)
    × (new ≡ old ++ value)
DecodesValue old new (Ok None) o = (o ≡ more) × (new ≡ old)
DecodesValue old new (Err e) o = (e ≢ Memory → o ≡ fault e) × (new ≡ old)

-- a function answers what is read; nothing is said where memory ran out
abbrev pub Reads : Result Step FieldFault → FieldReading → Type 0
Reads (Ok (steps.Got value used)) o = o ≡ got value.items used
Reads (Ok steps.More) o = o ≡ more
Reads (Err e) o = e ≢ Memory → o ≡ fault e

-- of the value that was got, and the bytes that it took
abbrev pub IfGot : Result Step FieldFault → (List ℕ → ℕ → Type 0) → Type 0
IfGot (Ok (steps.Got value used)) P = P value.items used
IfGot (Ok steps.More) P = Unit {0}
IfGot (Err e) P = Unit {0}
