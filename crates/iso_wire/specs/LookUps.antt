-- What look-ups give once one element was put or left out.
use Rattle.std.specs.Prelude.{◌≡◌, ◌≢◌, ℕ, List, Option}
use Rattle.iso_wire.specs.Elements.{value_in}

-- the look-up of n gives this value now, or none, and that of every other number what it gave before
abbrev pub ChangesAlone : ℕ → Option (List ℕ) → List (ℕ × List ℕ) → List (ℕ × List ℕ) → Type 0
ChangesAlone n value old new = (value_in new n ≡ value)
    × ((k : ℕ) → k ≢ n → value_in new k ≡ value_in old k)
