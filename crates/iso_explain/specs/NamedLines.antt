-- A message as lines for human eyes, with the names of its elements.
use Rattle.std.specs.Prelude.{◌≡◌, ◌⊎◌, ℕ, Bool, false, List, [], ◌∷◌, ◌++◌, Option, Some, None, codes}
use Rattle.iso_parts.specs.declared.spec.FieldSpec.{FieldSpec}
use Rattle.iso_table.specs.Layout.{Layout, row_at}
use Rattle.iso_wire.specs.Contents.{Contents}
use Rattle.iso_wire.specs.Decimal.{decimal}
use Rattle.iso_wire.specs.Describing.{type_line, class_by, shown_text}
use Rattle.iso_names.specs.Named.{has_name}
use Rattle.iso_names.specs.Own.{NetworkNames, own_name}

-- nothing, or a tab and a name
abbrev pub IsNote : List ℕ → Type 0
IsNote note = (note ≡ []) ⊎ ((name : List ℕ) × (note ≡ 9 ∷ name))

-- what stands behind the value of element n: a tab and its name, if it has one
pub record IsNoteOf (names : NetworkNames) (n : ℕ) (note : List ℕ) : Type 0 where
  pub form : IsNote note
  pub own : (name : List ℕ) → own_name names.own n ≡ Some name → note ≡ 9 ∷ name
  pub none : own_name names.own n ≡ None → has_name names.version n ≡ false → note ≡ []

-- the line of an element as its description has it, with the name before its end
abbrev pub NamedLine : Bool → List (Option FieldSpec) → NetworkNames → ℕ × List ℕ → List ℕ → Type 0
NamedLine is_clear rows names e line =
    (note : List ℕ) × IsNoteOf names e.0 note
    × (line ≡ codes "DE" ++ (decimal 3 e.0 ++ (codes "="
    ++ (shown_text is_clear (class_by (row_at rows e.0)) e.0 e.1 ++ (note ++ codes "\n")))))

-- the lines of the elements, one after another
abbrev pub NamedLines : Bool → List (Option FieldSpec) → NetworkNames → List (ℕ × List ℕ) → List ℕ
    → Type 0
NamedLines is_clear rows names [] text = text ≡ []
NamedLines is_clear rows names (e ∷ es) text =
    (line : List ℕ) × (rest : List ℕ) × NamedLine is_clear rows names e line
    × NamedLines is_clear rows names es rest × (text ≡ line ++ rest)

-- the line of the type, and those of the elements
abbrev pub NamedDescription : Bool → Layout → NetworkNames → Contents → List ℕ → Type 0
NamedDescription is_clear t names m text =
    (lines : List ℕ) × NamedLines is_clear t.rows names m.elements lines
    × (text ≡ type_line m.mti ++ lines)
