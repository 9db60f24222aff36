-- What a call writes to, before it and after it.
use Rattle.std.specs.Prelude.{ℕ, List, Option}

-- an output: what it has before a call and after it, where that is known
pub record Output : Type 0 where
  pub old : Option (List ℕ)
  pub new : Option (List ℕ)

-- a text that a call appends to: before it and after it
pub record Text : Type 0 where
  pub old : List ℕ
  pub new : List ℕ
