-- Values that lie in bytes, and parts that tell where.
use Rattle.std.specs.Prelude.{ℕ, ◌+◌, ◌-◌, ◌&&◌, nat_le, Bool, if◌then◌else◌, List, [], ◌∷◌, ◌++◌, length, take, drop, map, Option, Some, None, Result, Ok, Err}
use Rattle.iso_parts.specs.Numbers.{is_element}
use Rattle.iso_wire.specs.Elements.{put}
use Rattle.iso_c.specs.declared.fault.RumpadolFault.{RumpadolFault}
use Rattle.iso_c.specs.declared.parts.RumpadolPart.{RumpadolPart}
use Rattle.iso_c.specs.FaultNumbers.{bad_part, bad_number}

-- what the caller's part tells before a call, and after it
pub record Part : Type 0 where
  pub old : RumpadolPart
  pub new : RumpadolPart

-- the bytes that a part tells of
abbrev pub bytes_in : List ℕ → RumpadolPart → List ℕ
bytes_in b p = take p.length (drop p.start b)

-- the element that a part tells of
abbrev pub element_in : List ℕ → RumpadolPart → ℕ × List ℕ
element_in b p = (p.element, bytes_in b p)

-- the elements that parts tell of, one for each
abbrev pub elements_in : List ℕ → List RumpadolPart → List (ℕ × List ℕ)
elements_in b ps = map (element_in b) ps

-- ---- values that lie end to end

-- the values of elements, each right behind the one before
abbrev pub values_of : List (ℕ × List ℕ) → List ℕ
values_of [] = []
values_of (e ∷ es) = e.1 ++ values_of es

-- what tells of a value of that size at an offset
abbrev pub part_of : ℕ → ℕ → ℕ → RumpadolPart
part_of n start size = record { element = n; start = start; length = size }

-- the parts of values that lie so from an offset on
abbrev pub parts_from : ℕ → List (ℕ × List ℕ) → List RumpadolPart
parts_from at [] = []
parts_from at (e ∷ es) = part_of e.0 at (length e.1) ∷ parts_from (at + length e.1) es

-- ---- the elements that parts tell of

-- whether the part lies within so many bytes
abbrev pub is_part_within : ℕ → RumpadolPart → Bool
is_part_within size p = nat_le p.start size && nat_le p.length (size - p.start)

-- a part outside the bytes, or of a number that no element has
abbrev pub part_refusal : ℕ → RumpadolPart → Option RumpadolFault
part_refusal size p =
    if is_part_within size p
    then (if is_element p.element then None else Some (bad_number p.element))
    else Some (bad_part p.element p.start)

-- a refusal, where there is one, comes before all else
abbrev pub unless_refused : {A : Type 0} → Option RumpadolFault → Result A RumpadolFault
    → Result A RumpadolFault
unless_refused None r = r
unless_refused (Some f) r = Err f

-- elements, and then those of the parts, each in place of an earlier one of its number; or the first part's fault
abbrev pub elements_or_fault : List ℕ → List RumpadolPart → List (ℕ × List ℕ)
    → Result (List (ℕ × List ℕ)) RumpadolFault
elements_or_fault b [] es = Ok es
elements_or_fault b (p ∷ ps) es = unless_refused (part_refusal (length b) p)
    (elements_or_fault b ps (put p.element (bytes_in b p) es))
