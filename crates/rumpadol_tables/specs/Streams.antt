-- What a job reads, and what it writes to.
use Rattle.std.specs.Prelude.{ℕ, List, Option}

-- what there is to read before a job: the files by their paths, and the input, where their bytes are known
pub record Sources : Type 0 where
  pub file : List ℕ → Option (List ℕ)
  pub input : Option (List ℕ)

-- an output: what it has before a job and after it, where that is known
pub record Output : Type 0 where
  pub old : Option (List ℕ)
  pub new : Option (List ℕ)
