-- Which texts are names of journals.
use Rattle.std.specs.Prelude.{ℕ, ◌&&◌, ◌||◌, ◌==◌, nat_le, Bool, List, length}
use Rattle.std.specs.List.{list_all}

-- the byte is from the first to the last one
abbrev pub is_from_to : ℕ → ℕ → ℕ → Bool
is_from_to first last byte = nat_le first byte && nat_le byte last

-- a digit, a letter, '-', '_' or '.'
abbrev pub is_name_byte : ℕ → Bool
is_name_byte byte =
    is_from_to 48 57 byte || is_from_to 65 90 byte || is_from_to 97 122 byte || byte == 45 || byte
    == 95 || byte == 46

-- 1 to 64 of these
abbrev pub is_name : List ℕ → Bool
is_name text = nat_le 1 (length text) && nat_le (length text) 64 && list_all is_name_byte text
