-- What the command takes of a file.
use Rattle.std.specs.Prelude.{ℕ, List, take}

-- the bytes that are read of a file that holds these: one more than an input may have, so that a longer file can be told
abbrev pub read_of : List ℕ → List ℕ
read_of held = take 1048577 held
