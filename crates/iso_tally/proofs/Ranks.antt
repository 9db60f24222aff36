-- How many values of a sorted list are at most one of them, and below it.
use Rattle.std.proofs.Common.{◌≡◌, ℕ, zero, suc, Bool, true, false, List, [], ◌∷◌, length, get_or, arith, ◌+◌, ◌-◌, ◌*◌, ◌/◌, ◌<◌, ◌≤◌, cond, ap}
use Rattle.std.specs.Prelude.{count_by, nat_le, nat_lt}
use Rattle.std.specs.List.{Contains}
use Rattle.std.specs.List.Sorted.{IsNonDecreasing, IsPermutation, IsPartitionedBy, IsPartitionPoint}
use Rattle.std.proofs.lemmas.List.Sorted.{All-permutation, Contains-permutation, IsPartitionedBy-leb, IsPermutation-sym, length_permutation, sum_by-IsPermutation}
use Rattle.std.proofs.lemmas.List.Sums.{sum_by-cons}
use Rattle.std.proofs.lemmas.Bool.{le-leb, lt-leb}
use Rattle.std.proofs.lemmas.List.Elements.{Contains-get_or}
use Rattle.std.proofs.Math.Nat.{mul-sub, mul-div-le, lt-div-mul-add, mul-le-mul_left, mul-pos}
use Rattle.iso_tally.specs.Percentile.{IsPercentile, IsSummary}
use Rattle.iso_tally.specs.declared.summary.Summary.{Summary}

-- what one value adds to a count
abbrev one : Bool → ℕ
one b = cond b 1 0

-- a count of a list with one more in front
counts-first : (p : ℕ → Bool) (y : ℕ) (ys : List ℕ) → count_by p (y ∷ ys) ≡ one (p y) + count_by p ys
counts-first p y ys = sum_by-cons (λ x. cond (p x) 1 0) y ys

one-at-most : (b : Bool) → one b ≤ 1
one-at-most true = omega arith
one-at-most false = omega arith

-- where the first so many pass, at least so many do
pub pass-first : (p : ℕ → Bool) (ys : List ℕ) (r : ℕ) → r ≤ length ys → ((k : ℕ) → k < r → p (get_or ys k 0) ≡ true) → r ≤ count_by p ys
pass-first p ys zero short h = omega arith
pass-first p [] (suc r) short h = omega arith
pass-first p (y ∷ ys) (suc r) short h =
    let more = pass-first p ys r (omega arith) (λ k lt. h (suc k) (omega arith)) in
    let first : one (p y) ≡ one true = ap one (h 0 (omega arith)) in
    omega (arith, counts-first p y ys, first, more)

-- where none behind the first so many passes, at most so many do
pub pass-only : (p : ℕ → Bool) (ys : List ℕ) (r : ℕ) → ((k : ℕ) → r ≤ k → k < length ys → p (get_or ys k 0) ≡ false) → count_by p ys ≤ r
pass-only p [] r h = omega arith
pass-only p (y ∷ ys) zero h =
    let more = pass-only p ys 0 (λ k le lt. h (suc k) (omega arith) (omega arith)) in
    let first : one (p y) ≡ one false = ap one (h 0 (omega arith) (omega arith)) in
    omega (arith, counts-first p y ys, first, more)
pass-only p (y ∷ ys) (suc r) h =
    let more = pass-only p ys r (λ k le lt. h (suc k) (omega arith) (omega arith)) in
    omega (arith, counts-first p y ys, one-at-most (p y), more)

-- the values below a bound stand in front
pub parted : (ys : List ℕ) (bound : ℕ) → IsNonDecreasing ys → IsPartitionedBy (λ v. nat_lt v bound) ys
parted ys bound sorted = IsPartitionedBy-leb (λ v. suc v) ys bound (λ i j d le lt. let h = sorted i j d le lt in omega (arith, h))

-- as many pass as stand before the point from which on none does
pub pass-before : (p : ℕ → Bool) (ys : List ℕ) (r : ℕ) → r ≤ length ys
    → IsPartitionPoint (λ y. p y ≡ true) (λ y. p y ≡ false) ys r → r ≡ count_by p ys
pass-before p ys r within point =
    let least = pass-first p ys r within (λ k lt. point.0 k 0 (omega arith) lt) in
    let most = pass-only p ys r (λ k le lt. point.1 k 0 le lt) in
    omega (arith, least, most)

-- ---- the rank that all but one in so many have

rank-some-by : (k n q : ℕ) → 1 < k → 0 < n → k * q ≤ n → 0 < n - q
rank-some-by zero n q k h e = omega arith
rank-some-by (suc zero) n q k h e = omega arith
rank-some-by (suc (suc j)) n q k h e =
    let twice : (suc (suc j)) * q ≡ q + (q + j * q) = grind arith in
    omega (arith, twice)

pub rank-some : (n k : ℕ) → 1 < k → 0 < n → 0 < n - n / k
rank-some n k several some = rank-some-by k n (n / k) several some (mul-div-le n k)

rank-enough-by : (j n q : ℕ) → suc j * q ≤ n → j * n ≤ suc j * (n - q)
rank-enough-by j n q e =
    let less : suc j * (n - q) ≡ suc j * n - suc j * q = mul-sub (suc j) n q in
    let more : suc j * n ≡ n + j * n = grind arith in
    omega (arith, less, more)

pub rank-enough : (n k : ℕ) → 1 < k → (k - 1) * n ≤ k * (n - n / k)
rank-enough n zero several = omega arith
rank-enough n (suc j) several = let same : suc j - 1 ≡ j = omega arith in rw same (rank-enough-by j n (n / suc j) (mul-div-le n (suc j)))

rank-fewer-by : (j n q : ℕ) → 0 < j → q < n → n < q * suc j + suc j → suc j * (n - q - 1) < j * n
rank-fewer-by j n q several some e =
    let positive : 0 < j * n = mul-pos several (omega arith) in
    let less : suc j * (n - (q + 1)) ≡ suc j * n - suc j * (q + 1) = mul-sub (suc j) n (q + 1) in
    let more : suc j * n ≡ n + j * n = grind arith in
    let other : suc j * (q + 1) ≡ q * suc j + suc j = grind arith in
    let same : n - q - 1 ≡ n - (q + 1) = omega arith in
    rw same (omega (arith, less, more, other, positive))

pub rank-fewer : (n k : ℕ) → 1 < k → 0 < n → k * (n - n / k - 1) < (k - 1) * n
rank-fewer n zero several some = omega arith
rank-fewer n (suc j) several some = let same : suc j - 1 ≡ j = omega arith in rw same (rank-fewer-by j n (n / suc j) (omega arith) (let h = rank-some n (suc j) several some in omega (arith, h)) (lt-div-mul-add (omega arith)))

-- the value of that rank is the percentile
pub percentile-is : (ys : List ℕ) (k r : ℕ) → IsNonDecreasing ys → 0 < r → r ≤ length ys → (k - 1) * length ys ≤ k * r → k * (r - 1) < (k - 1) * length ys →
    IsPercentile (k - 1) k ys (get_or ys (r - 1) 0)
percentile-is ys k r up some within enough fewer = record {
  one = Contains-get_or ys (r - 1) 0 (omega arith);
  enough =
      let at_least = pass-first (λ x. nat_le x (get_or ys (r - 1) 0)) ys r within
      (λ i lt. le-leb _ _ (up i (r - 1) 0 (omega arith) (omega arith))) in
      let times : k * r ≤ k * count_by (λ x. nat_le x (get_or ys (r - 1) 0)) ys = mul-le-mul_left k at_least in
      omega (arith, times);
  fewer =
      let at_most = pass-only (λ x. nat_lt x (get_or ys (r - 1) 0)) ys (r - 1)
      (λ i le lt. lt-leb _ _ (let h = up (r - 1) i 0 le lt in omega (arith, h))) in
      let times : k * count_by (λ x. nat_lt x (get_or ys (r - 1) 0)) ys ≤ k * (r - 1) = mul-le-mul_left k at_most in
      omega (arith, times);
}

-- ---- in any order

module _ (xs ys : List ℕ) (same : IsPermutation xs ys) where
  as-many : (p : ℕ → Bool) → count_by p ys ≡ count_by p xs
  as-many p = sum_by-IsPermutation (λ x. cond (p x) 1 0) xs ys same

  there : (v : ℕ) → Contains ys v → Contains xs v
  there v h = Contains-permutation ys xs v (IsPermutation-sym xs ys same) h

  percentile-over : (share of v : ℕ) → IsPercentile share of ys v → IsPercentile share of xs v
  percentile-over share of v h = record {
    one = there v h.one;
    enough = rw (← length_permutation xs ys same, ← as-many (λ x. nat_le x v)) h.enough;
    fewer = rw (← length_permutation xs ys same, ← as-many (λ x. nat_lt x v)) h.fewer;
  }

  -- the percentiles of values are those of the sorted ones
  pub summary-over : (s : Summary) → IsSummary ys s → IsSummary xs s
  summary-over s h = record {
    least = record { one = there s.least h.least.one; none_below = All-permutation (λ v. s.least ≤ v) ys xs (IsPermutation-sym xs ys same) h.least.none_below };
    p50 = percentile-over 1 2 s.p50 h.p50;
    p90 = percentile-over 9 10 s.p90 h.p90;
    p99 = percentile-over 99 100 s.p99 h.p99;
    p999 = percentile-over 999 1000 s.p999 h.p999;
    most = record { one = there s.most h.most.one; none_above = All-permutation (λ v. v ≤ s.most) ys xs (IsPermutation-sym xs ys same) h.most.none_above };
  }
