-- The numbers of a bitmap's elements, in ascending order (ISO 8583:1987, primary and secondary bitmap).
use Rattle.std.specs.Prelude.{◌≡◌, ℕ, zero, suc, ◌+◌, ◌-◌, ◌==◌, ◌&&◌, nat_le, Bool, not, if◌then◌else◌, List, [], ◌∷◌, find, Option, Some, None}
use Rattle.iso_parts.specs.declared.bitmap.Bitmap.{Bitmap}
use Rattle.iso_parts.specs.Bitmap.{in_words}

-- whether an element may have the number: bit 1 tells of the secondary bitmap, and bit 65 of a third one
abbrev pub is_element : ℕ → Bool
is_element n = nat_le 2 n && nat_le n 128 && not (n == 65)

-- of count numbers from n on, those in the set
unfoldable pub numbers : (ℕ → Bool) → ℕ → ℕ → List ℕ
numbers set zero n = []
numbers set (suc count) n =
    if set n then n ∷ numbers set count (n + 1) else numbers set count (n + 1)

-- the numbers of elements, 2 to 128, that a primary and a secondary bitmap's words tell
abbrev pub numbers_in : ℕ → ℕ → List ℕ
numbers_in primary secondary = numbers (in_words primary secondary) 127 2

-- the numbers of a set
abbrev pub members : Bitmap → List ℕ
members s = numbers_in s.primary s.secondary

-- the numbers of a set that are below n
abbrev pub members_below : Bitmap → ℕ → List ℕ
members_below s n = numbers (in_words s.primary s.secondary) (n - 2) 2

-- the first of the numbers, if there is one, and the others
abbrev pub TakesFirst : List ℕ → List ℕ → Option ℕ → Type 0
TakesFirst old new None = (old ≡ []) × (new ≡ [])
TakesFirst old new (Some n) = old ≡ n ∷ new

-- the first of the numbers that isn't in the set
abbrev pub first_missing : (ℕ → Bool) → List ℕ → Option ℕ
first_missing set ns = find (λ n. not (set n)) ns
