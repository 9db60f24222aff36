-- What `convert` writes.
use Rattle.std.specs.Prelude.{◌≡◌, ℕ, List, [], ◌∷◌, Option, IfSome, codes}
use Rattle.std.specs.Io.KnownBytes.{Appends}
use Rattle.iso_table.specs.Layout.{Layout}
use Rattle.iso_wire.specs.Spelling.{Converts}
use Rattle.iso_cli.specs.AtHand.{AtHand, at_hand}
use Rattle.iso_cli.specs.Tables.{IsNamed}

-- what was appended is the plain spelling, under the second table, of the message that the whole input spells under the first
abbrev pub ConvertsOnStreams : AtHand → List ℕ → List ℕ → Type 0
ConvertsOnStreams w from to =
    IfSome w.input (λ all. (f : Layout) × (t : Layout) × (b : List ℕ) × IsNamed w.file from f
    × IsNamed w.file to t × Converts f t all b × Appends w.before w.after b)

-- where the words ask to convert, that was appended
abbrev pub ConvertsIfAsked : List (List ℕ) → (List ℕ → Option (List ℕ)) → Option (List ℕ)
    → Option (List ℕ) → Option (List ℕ) → Type 0
ConvertsIfAsked words file input old new = (from to : List ℕ)
    → words ≡ codes "convert" ∷ from ∷ to ∷ []
    → ConvertsOnStreams (at_hand file input old new) from to
