-- Complaints.
use Rattle.std.specs.Prelude.{◌≡◌, ℕ, List, ◌++◌, codes}

-- some characters and the end of the line
abbrev pub IsEndedLine : List ℕ → Type 0
IsEndedLine line = (text : List ℕ) × (line ≡ text ++ codes "\n")
