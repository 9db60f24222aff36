-- Building the value of a part that was judged good.
use Rattle.std.specs.Prelude.{◌≡◌, ℕ, ◌++◌, List, Result, Ok, Err}
use Rattle.iso_parts.specs.Reading.{FieldReading, got}

-- reading gives a part, and neither a fault nor that bytes are missing
abbrev pub IsPart : FieldReading → Type 0
IsPart o = (value : List ℕ) × (used : ℕ) × (o ≡ got value used)

-- a function appended the value of the part at the front, and says how many bytes it takes; or memory ran out, and nothing was changed
abbrev pub BuildsValue : {E : Type 0} → List ℕ → List ℕ → Result ℕ E → FieldReading → Type 0
BuildsValue old new (Ok used) o = (value : List ℕ) × (o ≡ got value used) × (new ≡ old ++ value)
BuildsValue old new (Err e) o = new ≡ old
