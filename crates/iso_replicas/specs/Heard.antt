-- What a store has heard of.
use Rattle.std.specs.Prelude.{ℕ, List, map}
use Rattle.std.specs.Global.{Vec}

-- the batches, as bytes, in the order of their places
abbrev pub heard : {B : Type 0} → List (Vec ℕ × B) → List (List ℕ)
heard entries = map (λ e. e.0.items) entries
