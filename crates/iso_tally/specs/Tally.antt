-- How a count grows.
use Rattle.std.specs.Prelude.{ℕ, ◌+◌, min}

-- the next number, or the greatest of 64 bits
abbrev pub one_more : ℕ → ℕ
one_more count = min (count + 1) 18446744073709551615
