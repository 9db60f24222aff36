-- Where the bodies of a message lie in its bytes, and reading them.
-- Inner: bodies and proofs cite it, and no public clause does.
use Rattle.std.specs.Prelude.{◌≡◌, ℕ, ◌+◌, ◌-◌, ◌*◌, ◌≤◌, List, [], ◌∷◌, take, drop, map, Option, Result, Ok, Err}
use Rattle.std.specs.Borrow.{Bor}
use Rattle.std.specs.List.{slice_index_or}
use Rattle.iso_parts.specs.declared.spec.FieldSpec.{FieldSpec}
use Rattle.iso_parts.specs.Spec.{longest_value}
use Rattle.iso_wire.specs.declared.bodies.Bodies.{Bodies}
use Rattle.iso_wire.specs.declared.bodies.Outline.{Outline}
use Rattle.iso_wire.specs.declared.fault.UnpackFault.{UnpackFault}
use Rattle.iso_parts.specs.Numbers.{members}
use Rattle.iso_parts.specs.Mti.{mti_number}
use Rattle.iso_wire.specs.Beginning.{beginning_at}
use Rattle.iso_wire.specs.Reading.{◌>>=◌, value_at}
use Rattle.iso_table.specs.Layout.{Layout, row_at}
use Rattle.iso_wire.specs.Viewing.{ViewContents, front_of, starts_of}

-- where the body with a number begins, and how many bytes it is
abbrev pub start_at : Bodies → ℕ → ℕ
start_at bodies n = slice_index_or bodies.starts n 0

-- how many bytes it is
abbrev pub body_size_at : Bodies → ℕ → ℕ
body_size_at bodies n = slice_index_or bodies.sizes n 0

-- the bytes of that body
abbrev pub body_in : List ℕ → Bodies → ℕ → List ℕ
body_in b bodies n = take (body_size_at bodies n) (drop (start_at bodies n) b)

-- the bodies in bytes for elements with the numbers
abbrev pub wire_of : List ℕ → Bodies → ℕ → ℕ × List ℕ
wire_of b bodies n = (n, body_in b bodies n)

-- the bodies of all elements with these numbers
abbrev pub wires_in : List ℕ → Bodies → List ℕ → List (ℕ × List ℕ)
wires_in b bodies ns = map (wire_of b bodies) ns

-- where those bodies begin
abbrev pub start_of : Bodies → ℕ → ℕ × ℕ
start_of bodies n = (n, start_at bodies n)

-- where the bodies of all elements with these numbers begin
abbrev pub starts_in : Bodies → List ℕ → List (ℕ × ℕ)
starts_in bodies ns = map (start_of bodies) ns

-- the message of an outline, with its bodies in the bytes
abbrev pub viewed_of : Outline → Bor (List ℕ) → Bodies → ViewContents
viewed_of outline b bodies =
    let ns = members outline.numbers in
    record {
      mti = mti_number outline.mti;
      used = outline.used;
      wires = wires_in b.now bodies ns;
      starts = starts_in bodies ns;
      bytes = b.now;
      address = b.ref_ptr;
    }

-- the body with a number lies within so many bytes
abbrev pub IsBodyWithin : ℕ → Bodies → ℕ → Type 0
IsBodyWithin size bodies n = start_at bodies n + body_size_at bodies n ≤ size

-- each of those bodies does
abbrev pub AreWithin : ℕ → Bodies → List ℕ → Type 0
AreWithin size bodies [] = Unit {0}
AreWithin size bodies (n ∷ ns) = IsBodyWithin size bodies n × AreWithin size bodies ns

-- ---- reading the bodies

-- the most bytes of a part: four of length, and two for each character
abbrev pub longest_part : ℕ
longest_part = 2 * longest_value + 4

-- the body of a part that takes so many bytes
abbrev pub wire_at : Option FieldSpec → List ℕ → ℕ → List ℕ
wire_at row b used = take (used - front_of row) (drop (front_of row) b)

-- the bodies of the elements with the numbers, and the offset behind them
abbrev pub wires_at : List (Option FieldSpec) → List ℕ → ℕ → List ℕ
    → Result (List (ℕ × List ℕ) × ℕ) UnpackFault
wires_at rows [] at b = Ok ([], at)
wires_at rows (n ∷ ns) at b = do
  first ← value_at rows n at b
  others ← wires_at rows ns (at + first.1) (drop first.1 b)
  Ok ((n, wire_at (row_at rows n) b first.1) ∷ others.0, others.1)

-- the message that the bytes begin with
abbrev pub view_at : Layout → Bor (List ℕ) → Result ViewContents UnpackFault
view_at t b = do
  begun ← beginning_at t b.now
  read ← wires_at t.rows begun.1 begun.2 (drop begun.2 b.now)
  Ok (record {
    mti = begun.0;
    used = read.1;
    wires = read.0;
    starts = starts_of t.rows begun.2 read.0;
    bytes = b.now;
    address = b.ref_ptr;
  })

-- a part was judged as reading does, without its value: where its body begins, and how many bytes it takes
abbrev pub JudgesWire : Option FieldSpec → Result (ℕ × ℕ) UnpackFault
    → Result (List ℕ × ℕ) UnpackFault → Type 0
JudgesWire row (Ok x) read = (x.0 ≡ front_of row) × ((value : List ℕ) × (read ≡ Ok (value, x.1)))
JudgesWire row (Err e) read = read ≡ Err e

-- the bodies are found that reading gives
abbrev pub FindsBodies : List ℕ → Bodies → List ℕ → Result ℕ UnpackFault
    → Result (List (ℕ × List ℕ) × ℕ) UnpackFault → Type 0
FindsBodies b bodies ns (Ok end) read = read ≡ Ok (wires_in b bodies ns, end)
FindsBodies b bodies ns (Err e) read = read ≡ Err e

-- the bodies of elements whose parts follow one another from an offset on begin where they were found
abbrev pub BeginsThere : List (Option FieldSpec) → ℕ → List ℕ → Bodies → List ℕ → Type 0
BeginsThere rows at b bodies ns = starts_in bodies ns ≡ starts_of rows at (wires_in b bodies ns)

-- an outline is of the message that reading gives, and its bodies lie there
abbrev pub Outlines : Bor (List ℕ) → Bodies → Result Outline UnpackFault
    → Result ViewContents UnpackFault → Type 0
Outlines b bodies (Ok outline) read = read ≡ Ok (viewed_of outline b bodies)
Outlines b bodies (Err e) read = read ≡ Err e
