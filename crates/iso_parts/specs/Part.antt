-- How a value is written: the bytes of its body, and the length before them.
use Rattle.std.specs.Prelude.{◌≡◌, ℕ, ◌+◌, ◌-◌, ◌*◌, ◌/◌, ◌%◌, ◌==◌, List, [], ◌∷◌, ◌++◌, length, replicate, Ok, if◌then◌else◌, ◌⊎◌}
use Rattle.std.specs.List.{flat_map}
use Rattle.hex.specs.Hex.{decode_of, encode_upper}
use Rattle.iso_parts.specs.declared.encoding.Coding.{Coding}
use Rattle.iso_parts.specs.declared.encoding.Coding.TheVariants as codings
use Rattle.iso_parts.specs.declared.digits.Digits.TheVariants as digits
use Rattle.iso_parts.specs.declared.prefix.Length.{Length}
use Rattle.iso_parts.specs.declared.prefix.Length.TheVariants as lengths
use Rattle.iso_parts.specs.declared.padding.Pad.{Pad}
use Rattle.iso_parts.specs.declared.padding.Pad.TheVariants as pads
use Rattle.iso_parts.specs.declared.spec.FieldSpec.{FieldSpec}
use Rattle.iso_parts.specs.Digits.{four_digits_of}
use Rattle.iso_parts.specs.Spec.{Fits}

-- n pad bytes at the padded end
abbrev pub with_pads : Pad → ℕ → List ℕ → List ℕ
with_pads pads.None n v = v
with_pads (pads.Left p) n v = replicate n p ++ v
with_pads (pads.Right p) n v = v ++ replicate n p

-- the characters on the wire: the value and its pads
abbrev pub with_padding : FieldSpec → List ℕ → List ℕ
with_padding s v = with_pads s.pad (s.max - length v) v

-- the two characters of a byte, the high nibble first
abbrev pub nibbles : ℕ → List ℕ
nibbles b = (48 + b / 16) ∷ (48 + b % 16) ∷ []

-- the characters of bytes, two of each
abbrev pub characters : List ℕ → List ℕ
characters bytes = flat_map nibbles bytes

-- an odd count of characters has a filler in front
abbrev pub with_filler : ℕ → List ℕ → List ℕ
with_filler f w = if length w % 2 == 1 then f ∷ w else w

-- the bytes stand for the characters
abbrev pub Stands : Coding → List ℕ → List ℕ → Type 0
Stands codings.Ascii b w = b ≡ w
Stands codings.Raw b w = b ≡ w
Stands codings.Bcd b w = (f : ℕ) × ((f ≡ 48) ⊎ (f ≡ 63)) × (characters b ≡ with_filler f w)
Stands codings.HexText b w = decode_of b ≡ Ok w

-- the bytes are a body of the value
abbrev pub Body : FieldSpec → List ℕ → List ℕ → Type 0
Body s v b = Fits s v × Stands s.coding b (with_padding s v)

-- the digits of a length
abbrev pub prefix : Length → ℕ → List ℕ
prefix lengths.Fixed n = []
prefix (lengths.LL digits.Ascii) n = (48 + n / 10) ∷ (48 + n % 10) ∷ []
prefix (lengths.LL digits.Bcd) n = (16 * (n / 10) + n % 10) ∷ []
prefix (lengths.LLL digits.Ascii) n = (48 + n / 100) ∷ (48 + n / 10 % 10) ∷ (48 + n % 10) ∷ []
prefix (lengths.LLL digits.Bcd) n = (n / 100) ∷ (16 * (n / 10 % 10) + n % 10) ∷ []
prefix (lengths.LLLL d) n = four_digits_of d n

-- the bytes are a part of the value: its length, where one is written, and a body
abbrev pub Part : FieldSpec → List ℕ → List ℕ → Type 0
Part s v b = (body : List ℕ) × Body s v body × (b ≡ prefix s.length (length v) ++ body)

-- ---- the part that is written: filler 0, upper case digits

-- a byte for two characters, each by its low nibble
abbrev pub pairs : List ℕ → List ℕ
pairs [] = []
pairs (h ∷ []) = []
pairs (h ∷ l ∷ rest) = (16 * (h % 16) + l % 16) ∷ pairs rest

-- the body that is written for characters
abbrev pub plain : Coding → List ℕ → List ℕ
plain codings.Ascii w = w
plain codings.Raw w = w
plain codings.Bcd w = pairs (with_filler 48 w)
plain codings.HexText w = encode_upper w

-- the length, where one is written, and the body
abbrev pub plain_part : FieldSpec → List ℕ → List ℕ
plain_part s v = prefix s.length (length v) ++ plain s.coding (with_padding s v)
