-- What `show` writes.
use Rattle.std.specs.Prelude.{ℕ, Bool, IsTrue, List, length, Option, IfSome}
use Rattle.std.specs.Io.KnownBytes.{Appends}
use Rattle.iso_table.specs.Layout.{Layout}
use Rattle.iso_wire.specs.Contents.{Contents}
use Rattle.iso_wire.specs.Describing.{used_bytes, AreLinesOf}
use Rattle.iso_wire.specs.Spelling.{BeginsWith}
use Rattle.iso_cli.specs.AtHand.{AtHand, at_hand}
use Rattle.iso_cli.specs.Tables.{IsNamed}
use Rattle.iso_cli.specs.Words.{AsksShow, is_name}

-- the lines of the message that the bytes begin with, in full or with what a bystander shouldn't read hidden
abbrev pub Shows : Layout → Bool → List ℕ → List ℕ → Type 0
Shows t is_clear all lines = (m : Contents) × (used : ℕ) × BeginsWith t m used all
    × AreLinesOf is_clear t m (used_bytes used (length all)) lines

-- what was appended is these lines, under the table that is named
abbrev pub ShowsOnStreams : AtHand → List ℕ → Bool → Type 0
ShowsOnStreams w table is_clear =
    IfSome w.input (λ all. (t : Layout) × (lines : List ℕ) × IsNamed w.file table t
    × Shows t is_clear all lines × Appends w.before w.after lines)

-- where the words ask to show, that was appended
abbrev pub ShowsIfAsked : List (List ℕ) → (List ℕ → Option (List ℕ)) → Option (List ℕ)
    → Option (List ℕ) → Option (List ℕ) → Type 0
ShowsIfAsked words file input old new =
    (table : List ℕ) (is_clear : Bool) → IsTrue (is_name table) → AsksShow words table is_clear
    → ShowsOnStreams (at_hand file input old new) table is_clear
