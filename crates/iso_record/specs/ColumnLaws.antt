-- What holds of the columns of every record: numbers in so many digits, and blanks.
use Rattle.std.specs.Prelude.{◌≡◌, ◌<◌, ◌^◌, ◌==◌, ℕ, true, List, ◌++◌, drop, bytes_eq, Some}
use Rattle.std.specs.List.{list_all}
use Rattle.iso_wire.specs.Decimal.{decimal}
use Rattle.iso_log.specs.Slots.{is_nonzero}
use Rattle.iso_record.specs.Key.{number_at}
use Rattle.iso_record.specs.Row.{blanks}

-- columns of a record
pub record ColumnLaws : Type 0 where
  -- a number comes back from its digits, wherever they stand
  pub read : (text : List ℕ) (at n v : ℕ) (rest : List ℕ) → drop at text ≡ decimal n v ++ rest
      → v < 10 ^ n → number_at text at n ≡ Some v
  -- two that are the same bytes, with what follows each, are one number with the same behind it
  pub apart : (n v w : ℕ) (us vs : List ℕ) → v < 10 ^ n → w < 10 ^ n
      → decimal n v ++ us ≡ decimal n w ++ vs → (v ≡ w) × (us ≡ vs)
  -- whether two are the same is told by their digits
  pub compared : (n v w : ℕ) → v < 10 ^ n → w < 10 ^ n
      → bytes_eq (decimal n v) (decimal n w) ≡ (v == w)
  -- no digit is a zero byte,
  pub digits : (n v : ℕ) → list_all is_nonzero (decimal n v) ≡ true
  -- and no blank is one
  pub blanks : (n : ℕ) → list_all is_nonzero (blanks n) ≡ true
