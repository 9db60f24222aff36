-- The word for a digit, which is empty where the digit has none.
-- Inner: bodies and proofs cite it, and no public clause does.
use Rattle.std.specs.Prelude.{ℕ, List, [], ◌∷◌}
use Rattle.iso_wire.specs.Describing.{reserved_word}

-- a word, or that the digit is reserved where there is none
abbrev pub word_or : ℕ → List ℕ → List ℕ
word_or d [] = reserved_word d
word_or d (c ∷ word) = c ∷ word
