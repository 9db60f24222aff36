-- A message as a line of JSON: what its description shows of each element, between quotes and at the element's number.
use Rattle.std.specs.Prelude.{ℕ, ◌==◌, ◌&&◌, ◌||◌, Bool, not, if◌then◌else◌, List, [], ◌∷◌, ◌++◌, Option, codes, decimal}
use Rattle.std.specs.List.{flat_map}
use Rattle.hex.specs.Hex.{encode_upper}
use Rattle.iso_parts.specs.Class.{is_within}
use Rattle.iso_parts.specs.Digits.{four_digits_of}
use Rattle.iso_parts.specs.declared.digits.Digits.TheVariants.{Ascii}
use Rattle.iso_parts.specs.declared.spec.FieldSpec.{FieldSpec}
use Rattle.iso_table.specs.Layout.{Layout, row_at}
use Rattle.iso_wire.specs.Contents.{Contents}
use Rattle.iso_wire.specs.Describing.{class_by, shown_text}

-- a printable character that needs no escape
abbrev pub is_plain : ℕ → Bool
is_plain b = is_within 32 126 b && not (b == 34 || b == 92)

-- what stands between quotes for a byte: the character with its number
unfoldable pub escaped : ℕ → List ℕ
escaped b =
    if b == 34 || b == 92 then 92 ∷ b ∷ []
    else if is_within 32 126 b then b ∷ []
    else codes "\\u00" ++ encode_upper (b ∷ [])

-- the member of an element: its number, and what the description shows of its value
abbrev pub json_member : Bool → List (Option FieldSpec) → ℕ × List ℕ → List ℕ
json_member is_clear rows e =
    codes "\"" ++ (decimal e.0 ++ (codes "\":\""
    ++ (flat_map escaped (shown_text is_clear (class_by (row_at rows e.0)) e.0 e.1) ++ codes "\"")))

-- a comma before each member
abbrev pub further_members : Bool → List (Option FieldSpec) → List (ℕ × List ℕ) → List ℕ
further_members is_clear rows es = flat_map (λ e. codes "," ++ json_member is_clear rows e) es

-- commas between the members
abbrev pub json_members : Bool → List (Option FieldSpec) → List (ℕ × List ℕ) → List ℕ
json_members is_clear rows [] = []
json_members is_clear rows (e ∷ es) =
    json_member is_clear rows e ++ further_members is_clear rows es

-- the line of a message
abbrev pub json_of : Bool → Layout → Contents → List ℕ
json_of is_clear t m =
    codes "{\"mti\":\"" ++ (four_digits_of Ascii m.mti
    ++ (codes "\",\"elements\":{" ++ (json_members is_clear t.rows m.elements ++ codes "}}")))
