-- What a write to a peer leaves.
use Rattle.std.specs.Prelude.{◌≤◌, ℕ, List, length, take}
use Rattle.std.specs.declared.option.Option.{Option}
use Rattle.std.specs.Io.KnownBytes.{Appends, Keeps}
use Rattle.iso_lines.specs.declared.writing.Went.{Went}
use Rattle.iso_lines.specs.declared.writing.Went.TheVariants.{Took, Later, Again, Failed}

-- so many bytes were taken from the front, or none
abbrev pub WritesFront : Option (List ℕ) → Option (List ℕ) → List ℕ → Went → Type 0
WritesFront old new bytes (Took n) = (n ≤ length bytes) × Appends old new (take n bytes)
WritesFront old new bytes Later = Keeps old new
WritesFront old new bytes Again = Keeps old new
WritesFront old new bytes Failed = Keeps old new

-- how many were taken
abbrev pub taken_by : Went → ℕ
taken_by (Took n) = n
taken_by Later = 0
taken_by Again = 0
taken_by Failed = 0

-- it holds where bytes were taken
abbrev pub IfTook : Went → Type 0 → Type 0
IfTook (Took n) P = P
IfTook Later P = Unit {0}
IfTook Again P = Unit {0}
IfTook Failed P = Unit {0}
