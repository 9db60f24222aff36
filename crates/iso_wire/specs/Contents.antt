-- What a message has.
use Rattle.std.specs.Prelude.{ℕ, List}

-- the number of its type, and the number and the value of each element
pub record Contents : Type 0 where
  pub mti : ℕ
  pub elements : List (ℕ × List ℕ)
