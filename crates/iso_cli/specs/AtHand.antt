-- What a job has at hand.
use Rattle.std.specs.Prelude.{ℕ, List, Option}

-- what the file at each path holds, the whole input, and what the output held before and holds after: where they are known
pub record AtHand : Type 0 where
  pub file : List ℕ → Option (List ℕ)
  pub input : Option (List ℕ)
  pub before : Option (List ℕ)
  pub after : Option (List ℕ)

-- these files, this input, and this output before and after
abbrev pub at_hand : (List ℕ → Option (List ℕ)) → Option (List ℕ) → Option (List ℕ)
    → Option (List ℕ) → AtHand
at_hand file input before after =
    record { file = file; input = input; before = before; after = after }
