-- What the steps answer that append what they read to the elements of a message.
-- Inner: bodies and proofs cite it, and no public clause does.
use Rattle.std.specs.Prelude.{◌≡◌, ℕ, List, [], ◌∷◌, ◌++◌, Result, Ok, Err}
use Rattle.iso_parts.specs.declared.mti.Mti.{Mti}
use Rattle.iso_parts.specs.Mti.{mti_number}
use Rattle.iso_wire.specs.declared.fault.UnpackFault.{UnpackFault}
use Rattle.iso_wire.specs.Contents.{Contents}
use Rattle.iso_wire.specs.Reading.{IsFaultOf}

-- a function appended the value that reading gives, and says how many bytes its part takes
abbrev pub AppendsPart : List ℕ → List ℕ → Result ℕ UnpackFault → Result (List ℕ × ℕ) UnpackFault
    → Type 0
AppendsPart old new (Ok used) read = (value : List ℕ) × (read ≡ Ok (value, used))
    × (new ≡ old ++ value)
AppendsPart old new (Err e) read = IsFaultOf e read

-- a function appended the value that reading gives as element n, and says how many bytes its part takes
abbrev pub AppendsElement : List (ℕ × List ℕ) → List (ℕ × List ℕ) → ℕ → Result ℕ UnpackFault
    → Result (List ℕ × ℕ) UnpackFault → Type 0
AppendsElement old new n (Ok used) read = (value : List ℕ) × (read ≡ Ok (value, used))
    × (new ≡ old ++ (n, value) ∷ [])
AppendsElement old new n (Err e) read = IsFaultOf e read

-- a function read these elements of the message that reading gives, and answers its type and how many bytes it takes
abbrev pub ReadsInto : List (ℕ × List ℕ) → Result (Mti × ℕ) UnpackFault
    → Result (Contents × ℕ) UnpackFault → Type 0
ReadsInto elements (Ok x) read =
    read ≡ Ok (record { mti = mti_number x.0; elements = elements }, x.1)
ReadsInto elements (Err e) read = IsFaultOf e read
