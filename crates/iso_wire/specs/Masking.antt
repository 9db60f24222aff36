-- How much of a value a bystander may read.
use Rattle.std.specs.Prelude.{◌≡◌, ℕ, ◌-◌, ◌==◌, ◌&&◌, ◌||◌, nat_le, Bool, if◌then◌else◌, List, [], ◌∷◌, ◌++◌, length, take, drop, replicate, codes}
use Rattle.std.specs.List.{flat_map}
use Rattle.hex.specs.Hex.{encode_upper}
use Rattle.iso_wire.specs.declared.masking.Shown.{Shown}

-- tracks (35, 36 and 45), the extended account number, PIN data and chip data
abbrev pub is_secret : ℕ → Bool
is_secret n = n == 34 || n == 35 || n == 36 || n == 45 || n == 52 || n == 55

-- whether the value is an account number long enough to show its ends
abbrev pub shows_ends : ℕ → ℕ → Bool
shows_ends n size = n == 2 && nat_le 13 size

-- how many bytes at the front are shown: the first six of an account number
abbrev pub shown_front : ℕ → ℕ → ℕ
shown_front n size = if shows_ends n size then 6 else if n == 2 || is_secret n then 0 else size

-- how many bytes at the end are shown: the last four of an account number
abbrev pub shown_end : ℕ → ℕ → ℕ
shown_end n size = if shows_ends n size then 4 else 0

-- the front and the end are shown, and all between is counted alone
pub record Masks (n : ℕ) (value : List ℕ) (m : Shown) : Type 0 where
  pub front : m.front.now ≡ take (shown_front n (length value)) value
  pub end : m.end.now ≡ drop (length value - shown_end n (length value)) value
  pub hidden : m.hidden ≡ length value - shown_front n (length value) - shown_end n (length value)

-- ---- as text

-- a byte that is a printable character as that character, and any other as two hexadecimal digits behind \x
abbrev pub readable_byte : ℕ → List ℕ
readable_byte b =
    if nat_le 32 b && nat_le b 126 then b ∷ [] else codes "\\x" ++ encode_upper (b ∷ [])

-- what is shown at the front, a star for each byte that is hidden, and what is shown at the end
abbrev pub masked_text : Shown → List ℕ
masked_text shown = flat_map readable_byte shown.front.now
    ++ (replicate shown.hidden 42 ++ flat_map readable_byte shown.end.now)
