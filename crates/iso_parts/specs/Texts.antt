-- The characters of a body: what the steps answer that read, judge or build them.
-- Inner: bodies and proofs cite it, and no public clause does.
use Rattle.std.specs.Prelude.{◌≡◌, ◌≢◌, ℕ, ◌++◌, Bool, true, false, List, Result, Ok, Err}
use Rattle.iso_parts.specs.declared.encoding.Coding.{Coding}
use Rattle.iso_parts.specs.declared.encoding.Coding.TheVariants as codings
use Rattle.iso_parts.specs.declared.fault.FieldFault.{FieldFault}
use Rattle.iso_parts.specs.declared.fault.FieldFault.TheVariants.{Memory}
use Rattle.iso_parts.specs.Buffers.{Keeps}

-- whether a character is a byte
abbrev pub is_plain : Coding → Bool
is_plain codings.Ascii = true
is_plain codings.Raw = true
is_plain codings.Bcd = false
is_plain codings.HexText = false

-- a function appended what reading gives, unless memory ran out; on a fault what was there still stands in front
abbrev pub Decodes : List ℕ → List ℕ → Result Unit FieldFault → Result (List ℕ) FieldFault → Type 0
Decodes old new (Ok u) read = (text : List ℕ) × (read ≡ Ok text) × (new ≡ old ++ text)
Decodes old new (Err e) read = (e ≢ Memory → read ≡ Err e) × Keeps old new

-- a function judged what reading gives, without the value: it never runs out of memory
abbrev pub IsJudged : Result Unit FieldFault → Result (List ℕ) FieldFault → Type 0
IsJudged (Ok u) read = (text : List ℕ) × (read ≡ Ok text)
IsJudged (Err e) read = read ≡ Err e

-- reading gives a value, and no fault
abbrev pub IsTold : Result (List ℕ) FieldFault → Type 0
IsTold read = (value : List ℕ) × (read ≡ Ok value)

-- a function appended what reading gives; where memory ran out what was there still stands in front
abbrev pub Builds : {E : Type 0} → List ℕ → List ℕ → Result Unit E → Result (List ℕ) FieldFault
    → Type 0
Builds old new (Ok u) read = (text : List ℕ) × (read ≡ Ok text) × (new ≡ old ++ text)
Builds old new (Err e) read = Keeps old new
