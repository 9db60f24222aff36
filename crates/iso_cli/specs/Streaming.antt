-- What reading a whole input leaves.
use Rattle.std.specs.Prelude.{◌≡◌, ℕ, ◌+◌, ◌<◌, ◌≤◌, Result, Ok, Err, vec_len, Vec}
use Rattle.iso_host.specs.Counts.{Counts}
use Rattle.iso_cli.specs.declared.streaming.InputFault.{InputFault}
use Rattle.iso_cli.specs.declared.streaming.InputFault.TheVariants.{Read, TooLong, TooManyTurns, Memory}

-- reads that gave so many bytes, and of which none failed
pub record Gave (old new : Counts) (count : ℕ) : Type 0 where
  pub moved : new.moved ≡ old.moved + count
  pub failures : new.failures ≡ old.failures

-- which fault comes when: `Read` only where the last read failed, and any other answer only where none did;
-- `TooLong` only where more bytes came than an input may have, and `TooManyTurns` only where all reads are spent, and each of
-- them gave a byte
abbrev pub ReadCause : {A : Type 0} → Counts → Counts → ℕ → Result (Vec ℕ A) InputFault → Type 0
ReadCause old new turns (Ok bytes) = Gave old new (vec_len bytes) × (new.calls ≤ old.calls + turns)
ReadCause old new turns (Err Read) = new.failures ≡ old.failures + 1
ReadCause old new turns (Err TooLong) = (new.failures ≡ old.failures)
    × (old.moved + 1048576 < new.moved)
ReadCause old new turns (Err TooManyTurns) =
    (new.failures ≡ old.failures) × (new.calls ≡ old.calls + turns)
    × (new.moved ≤ old.moved + 1048576) × (old.moved + turns ≤ new.moved)
ReadCause old new turns (Err Memory) = (new.failures ≡ old.failures)
    × (new.moved ≤ old.moved + 1048576)
