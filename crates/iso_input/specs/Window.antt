-- An input that is read block by block.
use Rattle.std.specs.Prelude.{◌≡◌, ℕ, ◌<◌, ◌≤◌, ◌↔◌, List, ◌++◌, length, Bool, IsTrue, Option}
use Rattle.std.specs.Io.KnownBytes.{Consumes, IsAtEnd}

-- the bytes that are held, and all that are held or still to come, where those are known
pub record Ahead : Type 0 where
  pub held : List ℕ
  pub ahead : Option (List ℕ)

-- a piece of at most a block was put behind the held bytes, and whether it has any bytes
abbrev pub Grows : List ℕ → List ℕ → Bool → Type 0
Grows old new more = (piece : List ℕ) × (new ≡ old ++ piece) × (length piece ≤ 65536)
    × (IsTrue more ↔ (0 < length piece))

-- one read put the next bytes of the input behind the held ones; there are none only at its end
abbrev pub IsRead : List ℕ → List ℕ → Option (List ℕ) → Option (List ℕ) → ℕ → Type 0
IsRead old new before rest count = (piece : List ℕ) × (new ≡ old ++ piece) × (length piece ≡ count)
    × (count ≤ 65536) × Consumes before rest piece × (count ≡ 0 → IsAtEnd rest)
