-- How values that stand side by side are copied at once.
-- Inner: bodies and proofs cite it, and no public clause does.
use Rattle.std.specs.Prelude.{◌≡◌, ℕ, ◌-◌, List, ◌++◌, take, drop}

-- the bytes from one place to another
abbrev pub between : List ℕ → ℕ → ℕ → List ℕ
between values from to = take (to - from) (drop from values)

-- what is there and the bytes that wait behind a value are what was there, those that waited before it, and its part
abbrev pub Continues : List ℕ → List ℕ → List ℕ → List ℕ → List ℕ → Type 0
Continues old new before part behind = new ++ behind ≡ old ++ (before ++ part)
