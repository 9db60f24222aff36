-- How the bodies of a message that is viewed stand to its elements.
use Rattle.std.specs.Prelude.{◌≡◌, ℕ, ◌-◌, ◌≤◌, List, ◌++◌, drop, Option, Some, None}
use Rattle.iso_parts.specs.declared.spec.FieldSpec.{FieldSpec}
use Rattle.iso_table.specs.Layout.{row_at}
use Rattle.iso_wire.specs.Elements.{value_in}
use Rattle.iso_wire.specs.Spelling.{PartAs}
use Rattle.iso_wire.specs.Viewing.{SpellsBodies, front_of, starts_of}

-- element n has a value, and its part lies in the bytes so that its body begins at `start`
pub record IsValueAt (rows : List (Option FieldSpec)) (es : List (ℕ × List ℕ)) (n start : ℕ)
    (b : List ℕ) : Type 0 where
  pub value : List ℕ
  pub part : List ℕ
  pub behind : List ℕ
  pub there : value_in es n ≡ Some value
  pub is : PartAs rows n value part
  pub front : front_of (row_at rows n) ≤ start
  pub lies : drop (start - front_of (row_at rows n)) b ≡ part ++ behind

-- what holds where bytes are the parts of elements, with these bodies
pub record ViewLaws : Type 0 where
  -- an element whose body starts somewhere has a value, and its part lies so that it does
  pub there : (rows : List (Option FieldSpec)) (n : ℕ) (b : List ℕ) (es wires : List (ℕ × List ℕ))
      (at start : ℕ) (p rest : List ℕ) → SpellsBodies rows es wires p → drop at b ≡ p ++ rest
      → value_in (starts_of rows at wires) n ≡ Some start → IsValueAt rows es n start b
  -- an element without a body has no value
  pub absent : (rows : List (Option FieldSpec)) (es wires : List (ℕ × List ℕ)) (p : List ℕ) (n : ℕ)
      → SpellsBodies rows es wires p → value_in wires n ≡ None → value_in es n ≡ None
