-- How many of the times fall into each bucket.
use Rattle.std.specs.Prelude.{◌&&◌, ℕ, Bool, true, List, [], ◌∷◌, Option, Some, None, count_by, sum_by, nat_le, nat_lt}
use Rattle.iso_tally.specs.declared.bucket.Bucket.{Bucket}

-- a value is in a bucket: at least as much as it begins with, and below its bound, if it has one
abbrev pub is_in : ℕ → Option ℕ → ℕ → Bool
is_in start None value = nat_le start value
is_in start (Some bound) value = nat_le start value && nat_lt value bound

-- a bucket with the count of all values that are in it
abbrev pub bucket_of : List ℕ → ℕ → Option ℕ → Bucket
bucket_of values start bound =
    record { from = start; below = bound; count = count_by (is_in start bound) values }

-- the buckets between these bounds: the first begins with a number, each next one where the one before it ends, and the
-- last has no bound
abbrev pub buckets_from : ℕ → List ℕ → List ℕ → List Bucket
buckets_from start [] values = bucket_of values start None ∷ []
buckets_from start (bound ∷ bounds) values =
    bucket_of values start (Some bound) ∷ buckets_from bound bounds values

-- each of these bounds is at least the one before it, the first at least that number
abbrev pub is_ascending : ℕ → List ℕ → Bool
is_ascending start [] = true
is_ascending start (bound ∷ bounds) = nat_le start bound && is_ascending bound bounds

-- how many values all buckets have together
abbrev pub counted : List Bucket → ℕ
counted buckets = sum_by (λ (b : Bucket). b.count) buckets
