-- Chip data (55): data objects of a tag, a length and a value, in templates or not (BER-TLV).
use Rattle.std.specs.Prelude.{◌≡◌, ℕ, ◌+◌, ◌*◌, ◌%◌, ◌==◌, ◌<◌, ◌≤◌, ◌||◌, nat_lt, Bool, List, [], ◌∷◌, ◌++◌, length, replicate, Option, None, Some, if◌then◌else◌}
use Rattle.hex.specs.Hex.{encode_upper}
use Rattle.iso_meaning.specs.declared.chip.Item.{Item}
use Rattle.iso_meaning.specs.Tags.{is_shown}

-- whether more bytes of a tag follow its first one
abbrev pub is_long : ℕ → Bool
is_long b = b % 32 == 31

-- the number and the size of a tag whose first byte is a, and says that more follow: a byte below 128 is the last, and a
-- tag has three bytes at most
abbrev pub long_tag : ℕ → List ℕ → Option (ℕ × ℕ)
long_tag a [] = None
long_tag a (b ∷ []) = if nat_lt b 128 then Some (256 * a + b, 2) else None
long_tag a (b ∷ c ∷ bs) =
    if nat_lt b 128 then Some (256 * a + b, 2)
    else if nat_lt c 128 then Some (65536 * a + 256 * b + c, 3)
    else None

-- the number and the size of the tag at the front
abbrev pub tag_of : List ℕ → Option (ℕ × ℕ)
tag_of [] = None
tag_of (a ∷ bs) = if is_long a then long_tag a bs else Some (a, 1)

-- the length behind its first byte, which says how many bytes follow, and the size of both
abbrev pub long_length : ℕ → List ℕ → Option (ℕ × ℕ)
long_length a [] = None
long_length a (b ∷ []) = if a == 129 then Some (b, 2) else None
long_length a (b ∷ c ∷ bs) =
    if a == 129 then Some (b, 2) else if a == 130 then Some (256 * b + c, 3) else None

-- the length at the front, and how many bytes tell it: itself below 128, or one or two bytes behind 81 or 82
abbrev pub length_of : List ℕ → Option (ℕ × ℕ)
length_of [] = None
length_of (a ∷ bs) = if nat_lt a 128 then Some (a, 1) else long_length a bs

-- where the next object begins: in a template right at its value
abbrev pub next : Item → ℕ
next p = if p.is_template then p.value else p.end

-- the objects follow one another in these bytes from one place to another, each behind what comes before it
abbrev pub Follow : ℕ → ℕ → ℕ → List Item → Type 0
Follow size from to [] = from ≡ to
Follow size from to (p ∷ ps) = (p.start ≡ from) × (from < p.value) × (p.value ≤ p.end)
    × (p.end ≤ size) × Follow size (next p) to ps

-- the objects of bytes, from the first byte to the last one
abbrev pub AreItemsOf : List ℕ → List Item → Type 0
AreItemsOf bytes items = Follow (length bytes) 0 (length bytes) items

-- two stars for each byte
abbrev pub stars_for : List ℕ → List ℕ
stars_for bytes = replicate (length bytes) 42 ++ replicate (length bytes) 42

-- a value as hexadecimal digits: in clear, or with stars in their place where a bystander shouldn't read it
abbrev pub chip_text : Bool → ℕ → List ℕ → List ℕ
chip_text is_clear tag value =
    if is_clear || is_shown tag then encode_upper value else stars_for value
