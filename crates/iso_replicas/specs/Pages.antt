-- How many batches are asked for at once.
use Rattle.std.specs.Prelude.{ℕ, ◌/◌, ◌==◌, max, min, if◌then◌else◌}

-- after a page of so many, with so many bytes: about 1,048,576 bytes, yet 4 at least, and 1,024 at most
abbrev pub most_after : ℕ → ℕ → ℕ
most_after batches bytes =
    if batches == 0 then 4 else min (max (1048576 / max (bytes / batches) 1) 4) 1024
