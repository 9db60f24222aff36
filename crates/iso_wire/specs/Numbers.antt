-- The first number of an element that has no row.
use Rattle.std.specs.Prelude.{ℕ, is_none, List, find, Option}
use Rattle.iso_parts.specs.declared.spec.FieldSpec.{FieldSpec}
use Rattle.iso_table.specs.Layout.{row_at}

-- the first of the numbers that has no row
abbrev pub unknown : List (Option FieldSpec) → List ℕ → Option ℕ
unknown rows ns = find (λ n. is_none (row_at rows n)) ns
