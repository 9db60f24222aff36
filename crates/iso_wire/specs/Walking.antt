-- Where a walk over pieces stands, by what was read.
-- Inner: bodies and proofs cite it, and no public clause does.
use Rattle.std.specs.Prelude.{◌≡◌, ℕ, ◌+◌, ◌-◌, ◌<◌, ◌≤◌, List, [], ◌∷◌, ◌++◌, length, take, drop, map, Option, Some, None, Result, Ok, Err}
use Rattle.iso_parts.specs.Bitmap.{map_size}
use Rattle.iso_parts.specs.BitmapReading.{top}
use Rattle.iso_parts.specs.Judging.{count_at}
use Rattle.iso_parts.specs.Mti.{mti_size}
use Rattle.iso_parts.specs.Numbers.{members, numbers_in}
use Rattle.iso_parts.specs.Reading.{prefix_size}
use Rattle.iso_parts.specs.declared.spec.FieldSpec.{FieldSpec}
use Rattle.iso_table.specs.Layout.{Layout, row_at}
use Rattle.iso_wire.specs.Pieces.{Ahead, next, whole, stopped, Walk, IsOver, StandsBefore, Steps, kind_of, rank, left_of}
use Rattle.iso_wire.specs.Reading.{type_at, primary_at, words_at}
use Rattle.iso_wire.specs.Spelling.{Parts}
use Rattle.iso_wire.specs.Stops.{Piece, type, primary, secondary, count, body, owner, size_of, Halts, Stops}
use Rattle.iso_wire.specs.declared.fault.UnpackFault.{UnpackFault}
use Rattle.iso_wire.specs.declared.judging.ResumePoint.{ResumePoint}
use Rattle.iso_wire.specs.declared.judging.ResumePoint.TheVariants as points
use Rattle.iso_wire.specs.declared.pieces.Span.{Span}
use Rattle.iso_wire.specs.declared.fault.UnpackCause.{UnpackCause}
use Rattle.iso_wire.specs.declared.pieces.Piece as told

-- where the piece of a point begins
abbrev pub place_of : Layout → ResumePoint → ℕ
place_of t points.Type = 0
place_of t points.Primary = mti_size t.mti
place_of t (points.Secondary first) = mti_size t.mti + map_size t.bitmap
place_of t (points.Elements rest at) = at
place_of t (points.Body n c rest at) = at

-- the piece of a point; where no element is left, the message is whole
abbrev pub length_under : ℕ → Option FieldSpec → Ahead
length_under n None = whole
length_under n (Some s) = next (count n s)

-- the length of the next of these elements; where none is left, the message is whole
abbrev pub length_ahead : List (Option FieldSpec) → List ℕ → Ahead
length_ahead rows [] = whole
length_ahead rows (n ∷ ns) = length_under n (row_at rows n)

-- the body of element n, of so many characters
abbrev pub body_under : ℕ → ℕ → Option FieldSpec → Ahead
body_under n c None = whole
body_under n c (Some s) = next (body n s c)

-- the piece that begins at a point; where no element is left, the message is whole
abbrev pub ahead_of : Layout → ResumePoint → Ahead
ahead_of t points.Type = next type
ahead_of t points.Primary = next primary
ahead_of t (points.Secondary first) = next secondary
ahead_of t (points.Elements rest at) = length_ahead t.rows (members rest)
ahead_of t (points.Body n c rest at) = body_under n c (row_at t.rows n)

-- the walk of a point, or of the fault that stopped it
abbrev pub walk_of : Layout → List ℕ → Result ResumePoint UnpackFault → Walk
walk_of t b (Ok point) =
    record { table = t; bytes = b; at = place_of t point; ahead = ahead_of t point }
walk_of t b (Err e) = record { table = t; bytes = b; at = e.at; ahead = stopped e }

-- the type and the bitmaps were read, and the parts of the elements before those with the numbers
pub record IsFront (t : Layout) (ns : List ℕ) (at : ℕ) (b : List ℕ) : Type 0 where
  pub mti : ℕ
  pub words : ℕ × ℕ × ℕ
  pub earlier : List (ℕ × List ℕ)
  pub used : ℕ
  pub typed : type_at t b ≡ Ok mti
  pub mapped : words_at t (mti_size t.mti) (drop (mti_size t.mti) b) ≡ Ok words
  pub numbers : numbers_in words.0 words.1 ≡ map (λ e. e.0) earlier ++ ns
  pub place : at ≡ mti_size t.mti + words.2 + used
  pub room : used ≤ length (drop (mti_size t.mti + words.2) b)
  pub parts : Parts t.rows earlier (take used (drop (mti_size t.mti + words.2) b))

-- the body that comes next: the number of its element, how many characters it has, and the offset at which it begins
pub record NextBody : Type 0 where
  pub element : ℕ
  pub count : ℕ
  pub start : ℕ

-- this element, so many characters, and this offset
abbrev pub next_body : ℕ → ℕ → ℕ → NextBody
next_body n c at = record { element = n; count = c; start = at }

-- the length of the element before which the parts end was read, too
pub record IsCounted (t : Layout) (ahead : NextBody) (ns : List ℕ) (b : List ℕ) : Type 0 where
  pub row : FieldSpec
  pub start : ℕ
  pub is : row_at t.rows ahead.element ≡ Some row
  pub front : IsFront t (ahead.element ∷ ns) start b
  pub told : count_at row (drop start b) ≡ Ok (Some ahead.count)
  pub most : ahead.count ≤ row.max
  pub place : ahead.start ≡ start + prefix_size row.length

-- the point was reached: the pieces before it were read
abbrev pub IsReached : Layout → List ℕ → ResumePoint → Type 0
IsReached t b points.Type = Unit {0}
IsReached t b points.Primary = (mti : ℕ) × (type_at t b ≡ Ok mti)
IsReached t b (points.Secondary first) =
    (mti : ℕ) × (type_at t b ≡ Ok mti)
    × (primary_at t (mti_size t.mti) (drop (mti_size t.mti) b) ≡ Ok first) × (top ≤ first)
IsReached t b (points.Elements rest at) = IsFront t (members rest) at b
IsReached t b (points.Body n c rest at) = IsCounted t (next_body n c at) (members rest) b

-- the walk stands at a point that was reached, or where the bytes stop
abbrev pub IsWalking : Layout → List ℕ → Result ResumePoint UnpackFault → Type 0
IsWalking t b (Ok point) = IsReached t b point
IsWalking t b (Err e) = (e.at ≤ length b) × Stops t b e.at e.element e.cause

-- what comes next, as the span tells it
pub record Spans (t : Layout) (piece : Piece) (at : ℕ) (span : Span) : Type 0 where
  pub kind : span.kind ≡ kind_of piece
  pub element : span.element ≡ owner piece
  pub start : span.start ≡ at
  pub size : span.size ≡ size_of t piece

-- the secondary bitmap comes, or the elements do
abbrev pub IsBehindPrimary : Layout → ℕ → ℕ → ResumePoint → Type 0
IsBehindPrimary t first start (points.Secondary w) = (w ≡ first) × (top ≤ first)
IsBehindPrimary t first start (points.Elements rest at) = (first < top)
    × (members rest ≡ numbers_in first 0) × (at ≡ start + map_size t.bitmap)
IsBehindPrimary t first start other = ⊥

-- where a piece comes, its span is told
abbrev pub SpansAhead : Layout → Ahead → ℕ → Option Span → Type 0
SpansAhead t ahead at None = IsOver ahead
SpansAhead t ahead at (Some span) = (piece : Piece) × (ahead ≡ next piece) × Spans t piece at span

-- a piece was passed, or it stops the bytes
abbrev pub Passes : Layout → List ℕ → Piece → ℕ → Result ResumePoint UnpackFault → Type 0
Passes t b piece at (Ok after) = IsReached t b after × (place_of t after ≡ at + size_of t piece)
    × (left_of (ahead_of t after) < 600 - rank piece)
Passes t b piece at (Err e) = (e.at ≡ at) × (e.element ≡ owner piece)
    × Halts t piece (drop at b) e.cause

-- where a piece comes next
abbrev pub PassesAhead : Layout → List ℕ → Ahead → ℕ → Result ResumePoint UnpackFault → Type 0
PassesAhead t b (next piece) at r = Passes t b piece at r
PassesAhead t b whole at r = Unit {0}
PassesAhead t b (stopped e) at r = Unit {0}

-- what is wrong with a piece
abbrev pub cause_after : Result ResumePoint UnpackFault → Option UnpackCause
cause_after (Ok after) = None
cause_after (Err e) = Some e.cause

-- the piece of a point is told, and the walk goes on; or no piece comes there
abbrev pub StepsFrom : Layout → List ℕ → ResumePoint
    → Option (told.Piece × Result ResumePoint UnpackFault) → Type 0
StepsFrom t b point None = IsOver (ahead_of t point) × (place_of t point ≤ length b)
    × StandsBefore t b (place_of t point) (ahead_of t point)
StepsFrom t b point (Some x) =
    Steps (walk_of t b (Ok point)) x.0 (walk_of t b x.1) × IsWalking t b x.1
    × (left_of (walk_of t b x.1).ahead < left_of (ahead_of t point))
