-- What additional amounts tell, one after the other.
use Rattle.std.proofs.Common.{◌≡◌, ℕ, suc, true, false, refl, List, take, drop}
use Rattle.std.specs.Prelude.{ℤ, Option, Some, None, is_some}
use Rattle.std.specs.Option.{option_or}
use Rattle.iso_frames.specs.Balance.{available_in, balance_from}

-- where the first tells nothing, the others do
pub balance-step : (n : ℕ) (currency text : List ℕ) → is_some (available_in currency (take 20 text)) ≡ false → balance_from (suc n) currency text ≡ balance_from n currency (drop 20 text)
unfolding balance_from
balance-step n currency text none = go (available_in currency (take 20 text)) none
  where
    go : (o : Option ℤ) → is_some o ≡ false → option_or o (balance_from n currency (drop 20 text)) ≡ balance_from n currency (drop 20 text)
    go None h = refl
    go (Some z) h = cc

-- where the first tells, it is that
pub balance-found : (n : ℕ) (currency text : List ℕ) → is_some (available_in currency (take 20 text)) ≡ true → available_in currency (take 20 text) ≡ balance_from (suc n) currency text
unfolding balance_from
balance-found n currency text found = go (available_in currency (take 20 text)) found
  where
    go : (o : Option ℤ) → is_some o ≡ true → o ≡ option_or o (balance_from n currency (drop 20 text))
    go None h = cc
    go (Some z) h = refl

pub balance-end : (currency text : List ℕ) → None ≡ balance_from 0 currency text
unfolding balance_from
balance-end currency text = refl
