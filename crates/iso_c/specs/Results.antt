-- Results whose bytes are looked at.
-- Inner: bodies and proofs cite it, and no public clause does.
use Rattle.std.specs.Prelude.{ℕ, List, Result, Ok, Err, Vec}
use Rattle.iso_c.specs.declared.fault.RumpadolFault.{RumpadolFault}

-- the bytes of a buffer that was made, or the fault
abbrev pub bytes_of : {A : Type 0} → Result (Vec ℕ A) RumpadolFault → Result (List ℕ) RumpadolFault
bytes_of (Ok v) = Ok v.items
bytes_of (Err e) = Err e
