-- A message that is left where it lies: its type, its length, the bodies of its elements, and where each begins.
use Rattle.std.specs.Prelude.{◌≡◌, ℕ, ◌+◌, ◌-◌, ◌≤◌, List, [], ◌∷◌, ◌++◌, length, take, drop, Option, Some, None, Result, Ok, Err}
use Rattle.std.specs.Borrow.{Bor}
use Rattle.iso_parts.specs.Reading.{prefix_size}
use Rattle.iso_parts.specs.declared.spec.FieldSpec.{FieldSpec}
use Rattle.iso_parts.specs.Part.{Body, prefix}
use Rattle.iso_wire.specs.declared.fault.UnpackFault.{UnpackFault}
use Rattle.iso_wire.specs.Contents.{Contents}
use Rattle.iso_wire.specs.Elements.{value_in}
use Rattle.iso_wire.specs.Reading.{whole}
use Rattle.iso_wire.specs.Spelling.{Spelling}
use Rattle.iso_table.specs.Layout.{Layout, row_at}

-- the type, how many bytes the message takes, the body of each element, as it lies there, the offset where each of them
-- begins, the bytes that it all lies in, and their address: their block of memory, and the offset in it
pub record ViewContents : Type 0 where
  pub mti : ℕ
  pub used : ℕ
  pub wires : List (ℕ × List ℕ)
  pub starts : List (ℕ × ℕ)
  pub bytes : List ℕ
  pub address : ℕ × ℕ

-- ---- where a body lies

-- the body of an element lies in the message, from the offset where it begins up to the other
abbrev pub LiesAt : ViewContents → ℕ → ℕ → ℕ → Type 0
LiesAt v n start end =
    (start ≤ end) × (end ≤ v.used)
    × (value_in v.wires n ≡ Some (take (end - start) (drop start v.bytes)))
    × (value_in v.starts n ≡ Some start)

-- the slice is the body of an element in its place: it isn't a copy, but begins in the very bytes, where the body begins
abbrev pub IsBodyInPlace : ViewContents → ℕ → Bor (List ℕ) → Type 0
IsBodyInPlace v n body =
    (start : ℕ) × LiesAt v n start (start + length body.now) × (value_in v.wires n ≡ Some body.now)
    × (body.ref_ptr ≡ (v.address.0, v.address.1 + start))

-- how many bytes of a part stand before its body
abbrev pub front_of : Option FieldSpec → ℕ
front_of None = 0
front_of (Some s) = prefix_size s.length

-- where bodies begin, of elements whose parts follow one another from an offset on: each body behind its length
abbrev pub starts_of : List (Option FieldSpec) → ℕ → List (ℕ × List ℕ) → List (ℕ × ℕ)
starts_of rows at [] = []
starts_of rows at (w ∷ ws) =
    let start = at + front_of (row_at rows w.0) in
    (w.0, start) ∷ starts_of rows (start + length w.1) ws

-- ---- what is viewed

-- the bytes are the parts of the elements, with these bodies
abbrev pub SpellsBodies : List (Option FieldSpec) → List (ℕ × List ℕ) → List (ℕ × List ℕ) → List ℕ
    → Type 0
SpellsBodies rows [] [] b = b ≡ []
SpellsBodies rows (e ∷ es) (w ∷ ws) b =
    (s : FieldSpec) × (rest : List ℕ) × (row_at rows e.0 ≡ Some s) × (w.0 ≡ e.0) × Body s e.1 w.1
    × (b ≡ prefix s.length (length e.1) ++ (w.1 ++ rest)) × SpellsBodies rows es ws rest
SpellsBodies rows es ws b = ⊥

-- a view is of the message that reading gives, and its bodies are those of the spelling at the front, where they lie
-- there; memory never runs out
abbrev pub Views : Layout → List ℕ → Result ViewContents UnpackFault
    → Result (Contents × ℕ) UnpackFault → Type 0
Views t b (Ok v) read =
    (es : List (ℕ × List ℕ)) × (front : ℕ)
    × (read ≡ whole (record { mti = v.mti; elements = es }) v.used)
    × SpellsBodies t.rows es v.wires (drop front (take v.used b))
    × (front ≤ v.used) × (v.starts ≡ starts_of t.rows front v.wires)
Views t b (Err e) read = read ≡ Err e

-- what the first bytes spell is viewed
abbrev pub ViewsSpelled : Layout → List ℕ → Result ViewContents UnpackFault → Type 0
ViewsSpelled t b result = (m : Contents) (front rest : List ℕ) → Spelling t m front
    → b ≡ front ++ rest → Views t b result (whole m (length front))

-- the first bytes, so many of them, spell a message of the type, the bodies are those of its elements in that spelling, and
-- they begin where its parts lie, which are its last bytes
abbrev pub IsViewed : Layout → ViewContents → List ℕ → Type 0
IsViewed t v b =
    (m : Contents) × (m.mti ≡ v.mti) × (v.used ≤ length b)
    × ((spelling : Spelling t m (take v.used b))
    × SpellsBodies t.rows m.elements v.wires spelling.parts
    × (v.starts ≡ starts_of t.rows (v.used - length spelling.parts) v.wires))
