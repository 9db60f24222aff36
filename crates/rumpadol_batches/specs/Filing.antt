-- The records of a file.
use Rattle.std.specs.Prelude.{ℕ, zero, suc, List, [], ◌∷◌, ◌++◌}
use Rattle.iso_log.specs.Slots.{slot}

-- so many records of these bytes, from the first on
abbrev pub slots_of : ℕ → List ℕ → List (List ℕ)
slots_of zero bytes = []
slots_of (suc n) bytes = slots_of n bytes ++ slot bytes n ∷ []
