-- What a buffer still holds where it could not grow.
use Rattle.std.specs.Prelude.{◌≡◌, ℕ, List, length, take}

-- the new list begins with the old one
abbrev pub Keeps : List ℕ → List ℕ → Type 0
Keeps old new = take (length old) new ≡ old
