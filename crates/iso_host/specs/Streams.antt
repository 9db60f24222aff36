-- What a call of a stream does to its counts.
use Rattle.std.specs.Prelude.{◌≡◌, ℕ, ◌<◌, List, length, Result, Ok, Err}
use Rattle.iso_host.specs.Counts.{Counts}
use Rattle.iso_host.specs.Counting.{counts_after}
use Rattle.iso_host.specs.declared.counting.Call.TheVariants.{Read, Wrote, Failed, Flushed, FlushFailed}

-- one more read, the bytes that it gave, and a failure exactly where it failed
abbrev pub CountsRead : {E : Type 0} → Counts → Counts → Result ℕ E → Type 0
CountsRead old new (Ok n) = new ≡ counts_after old (Read n)
CountsRead old new (Err e) = new ≡ counts_after old Failed

-- the same of a write: the bytes that it took wait for a flush
abbrev pub CountsWrite : {E : Type 0} → Counts → Counts → Result ℕ E → Type 0
CountsWrite old new (Ok n) = new ≡ counts_after old (Wrote n)
CountsWrite old new (Err e) = new ≡ counts_after old Failed

-- a flush is no write: after it no byte waits, and it counts only where it fails
abbrev pub CountsFlush : {T E : Type 0} → Counts → Counts → Result T E → Type 0
CountsFlush old new (Ok x) = new ≡ counts_after old Flushed
CountsFlush old new (Err e) = new ≡ counts_after old FlushFailed

-- a write takes at least one of at least one byte
abbrev pub TakesSome : {E : Type 0} → Result ℕ E → List ℕ → Type 0
TakesSome (Ok n) bytes = 0 < length bytes → 0 < n
TakesSome (Err e) bytes = Unit {0}
