-- Dumps as xxd, hexdump -C and Wireshark write them.
use Rattle.std.specs.Prelude.{◌≡◌, ℕ, ◌+◌, ◌==◌, ◌&&◌, ◌⊎◌, Bool, true, false, List, [], ◌∷◌, ◌++◌, length, count_by, Ok, codes}
use Rattle.std.specs.List.{AllPass, slice_split}
use Rattle.hex.specs.Hex.{decode_of, is_hex_digit}
use Rattle.iso_input.specs.Decoding.{tight}
use Rattle.iso_input.specs.Dump.{is_newline, is_blank, is_margin, begins, begins_byte, begins_column, is_dump, offset_of, hex_bytes}

-- no two blanks stand side by side, and none at the end
abbrev pub HasNoGap : List ℕ → Type 0
HasNoGap [] = Unit {0}
HasNoGap (b ∷ []) = is_blank b ≡ false
HasNoGap (a ∷ b ∷ bs) = ((is_blank a && is_blank b) ≡ false) × HasNoGap (b ∷ bs)

-- two halves with two blanks between them: eight bytes, and then some
pub record AreHalves (part : List ℕ) : Type 0 where
  pub first : List ℕ
  pub second : List ℕ
  pub is : part ≡ first ++ (codes "  " ++ second)
  pub eight : count_by is_hex_digit first ≡ 16
  pub first_dense : HasNoGap first
  pub second_dense : HasNoGap second
  pub more : begins_byte second ≡ true

-- a colon stands first
abbrev pub begins_colon : List ℕ → Bool
begins_colon l = begins (λ b. b == 58) l

-- an offset that counts the bytes before it
pub record IsOffset (count : ℕ) (offset : List ℕ) : Type 0 where
  pub some : length offset ≡ 0 → ⊥
  pub digits : AllPass is_hex_digit offset
  pub counts : offset_of offset ≡ count

-- a line of bytes: its offset; blanks, perhaps behind a colon; digits that decode to the bytes; and nothing more, or a text
-- column with anything in it
pub record IsLine (count : ℕ) (bytes line : List ℕ) : Type 0 where
  pub offset : List ℕ
  pub margin : List ℕ
  pub part : List ℕ
  pub text : List ℕ
  pub is : line ≡ offset ++ (margin ++ (part ++ text))
  pub before : IsOffset count offset
  pub parted : begins is_margin margin ≡ true
  pub blank : AllPass is_margin margin
  pub starts : begins is_hex_digit part ≡ true
  pub dense : HasNoGap part ⊎ ((begins_colon margin ≡ false) × AreHalves part)
  pub decoded : decode_of (tight part) ≡ Ok bytes
  pub column : (text ≡ [])
      ⊎ (begins_column (begins_colon margin) (count_by is_hex_digit part) text ≡ true)

-- a line without bytes: an empty one, or an offset alone
abbrev pub IsBare : ℕ → List ℕ → Type 0
IsBare count line = (line ≡ []) ⊎ IsOffset count line

-- lines, of which the first has so many bytes before it
abbrev pub AreLines : ℕ → List ℕ → List (List ℕ) → Type 0
AreLines count bytes [] = bytes ≡ []
AreLines count bytes (l ∷ ls) =
    (IsBare count l × AreLines count bytes ls)
    ⊎ ((first : List ℕ) × (rest : List ℕ) × (bytes ≡ first ++ rest) × IsLine count first l
    × AreLines (count + length first) rest ls)

-- a dump stands for the bytes of its lines, whatever their text columns show
abbrev pub DumpsComeBack : Type 0
DumpsComeBack = (text bytes : List ℕ) → is_dump text ≡ true
    → AreLines 0 bytes (slice_split is_newline text) → hex_bytes text ≡ Ok bytes
