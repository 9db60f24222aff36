-- What the program takes of a file or of standard input.
use Rattle.std.specs.Prelude.{ℕ, List, Option, IfSome, MatchBool, bytes_eq, codes, take}

-- the bytes that are read of a document that holds these: one more than a document may have, so that a longer one can be told
abbrev pub read_of : List ℕ → List ℕ
read_of held = take 1048577 held

-- where the bytes of what a word names are known, this holds of them: `-` names the input, every other word a file
abbrev pub IfHeld : (List ℕ → Option (List ℕ)) → Option (List ℕ) → List ℕ → (List ℕ → Type 0)
    → Type 0
IfHeld file input word Holds =
    MatchBool (bytes_eq word (codes "-")) (IfSome input Holds) (IfSome (file word) Holds)
