-- The first bit of a bitmap's word that is set.
-- Inner: bodies and proofs cite it, and no public clause does.
use Rattle.std.specs.Prelude.{◌≡◌, ℕ, suc, ◌+◌, ◌-◌, ◌<◌, ◌≤◌, ◌^◌}

-- the first bit of a word, behind so many others, was taken out of it
abbrev pub TakesFirstBit : ℕ → ℕ → ℕ → Type 0
TakesFirstBit old new before = (i : ℕ) × (before + suc i ≡ 64) × (2 ^ i ≤ old) × (old < 2 ^ suc i)
    × (new ≡ old - 2 ^ i)
