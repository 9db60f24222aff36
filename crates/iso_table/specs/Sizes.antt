-- How many bytes a message has at most.
use Rattle.std.specs.Prelude.{ℕ, ◌+◌, ◌*◌, sum_by, Option, Some, None}
use Rattle.iso_parts.specs.declared.spec.FieldSpec.{FieldSpec}
use Rattle.iso_parts.specs.Bitmap.{map_size}
use Rattle.iso_parts.specs.Mti.{mti_size}
use Rattle.iso_parts.specs.Reading.{prefix_size, body_size}
use Rattle.iso_table.specs.Layout.{Layout}

-- the bytes of a row's longest field: its length, and as many characters as it may have
abbrev pub field_bytes : FieldSpec → ℕ
field_bytes s = prefix_size s.length + body_size s.coding s.max

-- the bytes of the longest field at a place, if it has a row
abbrev pub place_bytes : Option FieldSpec → ℕ
place_bytes None = 0
place_bytes (Some s) = field_bytes s

-- the bytes of a message with both bitmaps and every element, each as long as it can be
abbrev pub max_bytes : Layout → ℕ
max_bytes t = mti_size t.mti + 2 * map_size t.bitmap + sum_by place_bytes t.rows
