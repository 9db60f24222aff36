-- Decimal digits.
use Rattle.std.proofs.Common.{◌≡◌, ℕ, zero, suc, ◌<◌, ◌+◌, ◌-◌, ◌/◌, ◌%◌, [], ◌∷◌, ◌++◌, refl, arith, sub-one}
use Rattle.iso_etcd.specs.Keys.{digits}

-- no digits
pub digits-none : (number : ℕ) → digits 0 number ≡ []
unfolding digits
digits-none number = refl

-- the last digit stands behind the others
pub digits-more : (count number : ℕ) → 0 < count → digits count number ≡ digits (count - 1) (number / 10) ++ (48 + number % 10) ∷ []
unfolding digits
digits-more zero number h = absurd (omega arith)
digits-more (suc count) number h = rw sub-one refl
