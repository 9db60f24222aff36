-- The characters of each class.
use Rattle.std.specs.Prelude.{ℕ, ◌==◌, ◌&&◌, ◌||◌, nat_le, Bool, true, List, [], ◌∷◌}
use Rattle.std.specs.List.{list_all}
use Rattle.iso_parts.specs.declared.class.CharClass.{CharClass}
use Rattle.iso_parts.specs.declared.class.CharClass.TheVariants.{N, A, AN, ANS, Z, ZD, XN, B}

-- from one byte to another, both included
abbrev pub is_within : ℕ → ℕ → ℕ → Bool
is_within low high b = nat_le low b && nat_le b high

-- 0 to 9
abbrev pub is_digit : ℕ → Bool
is_digit b = is_within 0x30 0x39 b

-- A to Z, a to z
abbrev pub is_letter : ℕ → Bool
is_letter b = is_within 0x41 0x5A b || is_within 0x61 0x7A b

-- whether a byte may stand in a value of the class, under XN behind its first byte
abbrev pub is_member : CharClass → ℕ → Bool
is_member N b = is_digit b
is_member A b = is_letter b
is_member AN b = is_letter b || is_digit b
is_member ANS b = is_within 0x20 0x7E b
is_member Z b = is_within 0x30 0x3F b
is_member ZD b = is_within 0x30 0x3F b || b == 0x44
is_member XN b = is_digit b
is_member B b = true

-- whether a byte may stand first
abbrev pub is_first : CharClass → ℕ → Bool
is_first XN b = b == 0x43 || b == 0x44
is_first c b = is_member c b

-- whether the bytes are a value of the class
abbrev pub is_in_class : CharClass → List ℕ → Bool
is_in_class c [] = true
is_in_class c (b ∷ bs) = is_first c b && list_all (is_member c) bs
