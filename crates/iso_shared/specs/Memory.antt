-- A store in memory.
use Rattle.std.specs.Prelude.{ℕ, List, map}
use Rattle.std.specs.declared.vec.Vec.{Vec}
use Rattle.std.specs.declared.alloc.Global.{Global}
use Rattle.iso_shared.specs.declared.store.Asked.{Asked}
use Rattle.iso_shared.specs.declared.store.Asked.TheVariants.{Stands, Other, Unknown, Unsent}

-- the bytes of batches
abbrev pub texts : List (Vec ℕ Global) → List (List ℕ)
texts batches = map (λ b. b.items) batches

-- the answer says that the batch was sent
abbrev pub WasSent : Asked → Type 0
WasSent Stands = Unit {0}
WasSent (Other found) = Unit {0}
WasSent Unknown = Unit {0}
WasSent Unsent = ⊥
