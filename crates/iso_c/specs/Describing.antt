-- A message as lines for human eyes: its description, and how many bytes it took.
use Rattle.std.specs.Prelude.{ℕ, false, List, length, Option, Some, None}
use Rattle.iso_table.specs.Layout.{Layout}
use Rattle.iso_wire.specs.Contents.{Contents}
use Rattle.iso_wire.specs.Describing.{used_bytes, AreLinesOf}
use Rattle.iso_wire.specs.Spelling.{BeginsWith}

-- the bytes begin with a message, and these are its lines
abbrev pub Describes : Layout → List ℕ → List ℕ → Type 0
Describes t b lines =
    (m : Contents) × (used : ℕ) × BeginsWith t m used b
    × AreLinesOf false t m (used_bytes used (length b)) lines

-- the same under the table that a slot holds; under none nothing is described
abbrev pub DescribesHeld : Option Layout → List ℕ → List ℕ → Type 0
DescribesHeld (Some t) b lines = Describes t b lines
DescribesHeld None b lines = ⊥
