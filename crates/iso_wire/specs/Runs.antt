-- Values that stand together in the bytes of a message, and wait there to be copied behind the others.
-- Inner: bodies and proofs cite it, and no public clause does.
use Rattle.std.specs.Prelude.{◌≡◌, ℕ, ◌+◌, ◌-◌, true, List, [], ◌∷◌, ◌++◌, length, take, drop, Result, Ok, Err}
use Rattle.iso_parts.specs.declared.padding.Pad.TheVariants as pads
use Rattle.iso_parts.specs.declared.spec.FieldSpec.{FieldSpec}
use Rattle.iso_parts.specs.Numbers.{members}
use Rattle.iso_parts.specs.Texts.{is_plain}
use Rattle.iso_wire.specs.declared.elements.Elements.{Elements}
use Rattle.iso_wire.specs.declared.fault.UnpackFault.{UnpackFault}
use Rattle.iso_wire.specs.Ends.{elements_of, Ascend}
use Rattle.iso_wire.specs.Reading.{IsFaultOf}

-- the bytes from one offset up to another one
abbrev pub run_in : List ℕ → ℕ → ℕ → List ℕ
run_in b from to = take (to - from) (drop from b)

-- the elements whose values lie in the buffer and behind it in a run
abbrev pub views_with : Elements → List ℕ → List (ℕ × List ℕ)
views_with x run = elements_of (members x.numbers) 0 x.ends.items (x.values.items ++ run)

-- the first elements are there, their last values in a run, and those with these numbers are still to come
pub record AwaitsWith (x : Elements) (run later : List ℕ) : Type 0 where
  pub ends : Ascend 0 x.ends.items (length (x.values.items ++ run))
  pub done : List ℕ
  pub numbers : members x.numbers ≡ done ++ later
  pub count : length x.ends.items ≡ length done

-- the body of a part is its value: a character is a byte, and there is no padding
pub record IsBare (s : FieldSpec) : Type 0 where
  pub coding : is_plain s.coding ≡ true
  pub pad : s.pad ≡ pads.None

-- one value more ends behind the buffer and the run
pub record Pushes (old new : Elements) (run after v : List ℕ) : Type 0 where
  pub numbers : new.numbers ≡ old.numbers
  pub ends : new.ends.items ≡ old.ends.items ++ length ((old.values.items ++ run) ++ v) ∷ []
  pub values : new.values.items ++ after ≡ (old.values.items ++ run) ++ v

-- a run that waits: the bytes it stands in, and the offsets at which it begins and ends
pub record Run : Type 0 where
  pub bytes : List ℕ
  pub from : ℕ
  pub to : ℕ

-- these bytes, and these offsets
abbrev pub run_of : List ℕ → ℕ → ℕ → Run
run_of bytes from to = record { bytes = bytes; from = from; to = to }

-- a function added the value that reading gives behind a run, and says where the run begins and ends then
abbrev pub AppendsRun : Run → Elements → Elements → Result (ℕ × ℕ) UnpackFault
    → Result (List ℕ × ℕ) UnpackFault → Type 0
AppendsRun r old new (Ok x) read = (first : List ℕ × ℕ) × (read ≡ Ok first)
    × (x.1 ≡ r.to + first.1)
    × Pushes old new (run_in r.bytes r.from r.to) (run_in r.bytes x.0 x.1) first.0
AppendsRun r old new (Err e) read = IsFaultOf e read
