-- What a write of whole bytes leaves.
use Rattle.std.specs.Prelude.{◌≡◌, ℕ, ◌+◌, ◌≤◌, List, length, take, Result, Ok, Err}
use Rattle.std.specs.declared.option.Option.{Option}
use Rattle.std.specs.Io.KnownBytes.{Appends}
use Rattle.iso_host.specs.Counts.{Counts}

-- some bytes at the front of these were written
abbrev pub WritesSome : Option (List ℕ) → Option (List ℕ) → List ℕ → Type 0
WritesSome old new bytes = (n : ℕ) × (n ≤ length bytes) × Appends old new (take n bytes)

-- at Ok the bytes were written, else some at their front
abbrev pub WritesFront : {T E : Type 0} → Option (List ℕ) → Option (List ℕ) → List ℕ → Result T E
    → Type 0
WritesFront old new bytes (Ok x) = Appends old new bytes
WritesFront old new bytes (Err e) = WritesSome old new bytes

-- calls that moved so many bytes, each at least one, and of which none failed
pub record Moves (old new : Counts) (count : ℕ) : Type 0 where
  pub calls : new.calls + old.moved ≤ old.calls + new.moved
  pub moved : new.moved ≡ old.moved + count
  pub failures : new.failures ≡ old.failures

-- at Ok each byte was moved and flushed and no call failed, else the last call failed and no other
abbrev pub CountsWhole : {T E : Type 0} → Counts → Counts → List ℕ → Result T E → Type 0
CountsWhole old new bytes (Ok x) = Moves old new (length bytes) × (new.unflushed ≡ 0)
CountsWhole old new bytes (Err e) = new.failures ≡ old.failures + 1
