-- How a count grows, and which bucket of a histogram a value falls into.
use Rattle.std.specs.Prelude.{ℕ, ◌+◌, ◌-◌, ◌^◌, min, List, length, nat_lt, nat_le, if◌then◌else◌, position, unwrap_or, slice_set, slice_index}
use Rattle.iso_counts.specs.declared.histogram.Histogram.{Histogram}
use Rattle.iso_counts.specs.declared.histogram.TheConstants.{BOUNDS}

-- a count with so many more, which stops at the greatest number
abbrev pub more_of : ℕ → ℕ → ℕ
more_of count more = min (count + more) (2 ^ 64 - 1)

-- the counts with one more at a place, if there is such a place
abbrev pub counted_at : List ℕ → ℕ → List ℕ
counted_at counts place =
    if nat_lt place (length counts)
    then slice_set counts place (more_of (slice_index counts place) 1) else counts

-- the first bucket whose bound is at least the value, and behind all bounds the last one
abbrev pub bucket_of : List ℕ → ℕ → ℕ
bucket_of bounds value = unwrap_or (position (λ bound. nat_le value bound) bounds) (length bounds)

-- a histogram with one more value
abbrev pub added_to : Histogram → ℕ → Histogram
added_to h micros =
    record { counts = counted_at h.counts (bucket_of BOUNDS micros); sum = more_of h.sum micros }
