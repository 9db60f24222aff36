-- The elements of a message, listed by their numbers.
use Rattle.std.specs.Prelude.{ℕ, zero, suc, ◌+◌, List, [], ◌∷◌, ◌++◌, Option, Some, None}

-- an element where it has a value
abbrev pub element_where : ℕ → Option (List ℕ) → List (ℕ × List ℕ)
element_where n (Some v) = (n, v) ∷ []
element_where n None = []

-- the elements that have a value, of `count` numbers from n on
abbrev pub elements_from : (ℕ → Option (List ℕ)) → ℕ → ℕ → List (ℕ × List ℕ)
elements_from value n zero = []
elements_from value n (suc count) = element_where n (value n) ++ elements_from value (n + 1) count
