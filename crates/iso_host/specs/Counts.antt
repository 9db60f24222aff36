-- What contracts see of a stream: its bytes, and what is counted of its calls.
use Rattle.std.specs.Prelude.{ℕ, List, Option}

-- how often a stream was called, how many bytes it moved, how often it failed, and how many bytes were written since the
-- last flush
pub record Counts : Type 0 where
  pub calls : ℕ
  pub moved : ℕ
  pub failures : ℕ
  pub unflushed : ℕ

-- no call yet
abbrev pub none_yet : Counts
none_yet = record { calls = 0; moved = 0; failures = 0; unflushed = 0 }

-- a stream: the bytes that a reader still gives or that a writer holds, where they are known, and the counts of its calls
pub record Stream : Type 0 where
  pub bytes : Option (List ℕ)
  pub counts : Counts

-- these bytes and these counts
abbrev pub stream : Option (List ℕ) → Counts → Stream
stream bytes counts = record { bytes = bytes; counts = counts }

-- how a reader and a writer were used: the counts of each
pub record Usage : Type 0 where
  pub reader : Counts
  pub writer : Counts

-- these of the reader and of the writer
abbrev pub usage : Counts → Counts → Usage
usage reader writer = record { reader = reader; writer = writer }
