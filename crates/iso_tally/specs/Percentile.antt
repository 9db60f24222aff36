-- Percentiles of the times that answers took.
use Rattle.std.specs.Prelude.{◌≤◌, ◌<◌, ◌*◌, ℕ, List, count_by, length, nat_le, nat_lt}
use Rattle.std.specs.List.{All, Contains}
use Rattle.iso_tally.specs.declared.summary.Summary.{Summary}

-- one of the values: at least so many of so many of all are at most it, and fewer are below it
pub record IsPercentile (share of : ℕ) (values : List ℕ) (value : ℕ) : Type 0 where
  pub one : Contains values value
  pub enough : share * length values ≤ of * count_by (λ v. nat_le v value) values
  pub fewer : of * count_by (λ v. nat_lt v value) values < share * length values

-- one of the values, and none is below it
pub record IsLeast (values : List ℕ) (value : ℕ) : Type 0 where
  pub one : Contains values value
  pub none_below : All (λ v. value ≤ v) values

-- one of the values, and none is above it
pub record IsMost (values : List ℕ) (value : ℕ) : Type 0 where
  pub one : Contains values value
  pub none_above : All (λ v. v ≤ value) values

-- the percentiles of the values
pub record IsSummary (values : List ℕ) (s : Summary) : Type 0 where
  pub least : IsLeast values s.least
  pub p50 : IsPercentile 1 2 values s.p50
  pub p90 : IsPercentile 9 10 values s.p90
  pub p99 : IsPercentile 99 100 values s.p99
  pub p999 : IsPercentile 999 1000 values s.p999
  pub most : IsMost values s.most
