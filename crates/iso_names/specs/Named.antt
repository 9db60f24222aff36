-- Which elements have a name.
use Rattle.std.specs.Prelude.{ℕ, ◌==◌, ◌&&◌, ◌||◌, not, nat_le, Bool, false, if◌then◌else◌}
use Rattle.iso_parts.specs.Numbers.{is_element}

-- the elements whose layout in ISO 8583:2003 isn't known: 50, 51, 74 to 90 and 105 to 110
abbrev pub is_unknown03 : ℕ → Bool
is_unknown03 n =
    n == 50 || n == 51 || (nat_le 74 n && nat_le n 90) || (nat_le 105 n && nat_le n 110)

-- whether ISO 8583:2003 names the element here
abbrev pub has_name03 : ℕ → Bool
has_name03 n = is_element n && not (is_unknown03 n)

-- whether the edition of a version (0 is 1987, 1 is 1993, 2 is 2003) names the element here
abbrev pub has_name : ℕ → ℕ → Bool
has_name v n = if nat_le v 1 then is_element n else if v == 2 then has_name03 n else false
