-- The words for the digits of a message type.
use Rattle.std.specs.Prelude.{ℕ, List, Option, None, Some}
use Rattle.std.specs.Borrow.{Bor}
use Rattle.iso_wire.specs.Describing.{reserved_word}

-- the word of a digit, or that the digit is reserved where it has none
abbrev pub word_of : ℕ → Option (Bor (List ℕ)) → List ℕ
word_of digit None = reserved_word digit
word_of digit (Some word) = word.now
