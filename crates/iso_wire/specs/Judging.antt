-- Reading on from a piece that isn't whole yet: what stood before it isn't read again.
-- Inner: bodies and proofs cite it, and no public clause does.
use Rattle.std.specs.Prelude.{◌≡◌, ℕ, ◌+◌, ◌≤◌, List, ◌++◌, length, drop, Option, Some, None, Result, Ok, Err}
use Rattle.iso_parts.specs.Judging.{size_at}
use Rattle.iso_parts.specs.declared.fault.FieldFault.{FieldFault}
use Rattle.iso_parts.specs.declared.spec.FieldSpec.{FieldSpec}
use Rattle.iso_parts.specs.Bitmap.{map_size}
use Rattle.iso_wire.specs.declared.fault.UnpackFault.{UnpackFault}
use Rattle.iso_wire.specs.declared.fault.UnpackCause.TheVariants.{Short, UnknownElement, Field}
use Rattle.iso_wire.specs.declared.judging.ResumePoint.{ResumePoint}
use Rattle.iso_wire.specs.declared.judging.ResumePoint.TheVariants as points
use Rattle.iso_wire.specs.declared.judging.JudgingStop.{JudgingStop}
use Rattle.iso_parts.specs.declared.bitmap.Bitmap.{Bitmap}
use Rattle.iso_table.specs.Layout.{Layout, row_at}
use Rattle.iso_parts.specs.Numbers.{numbers_in}
use Rattle.iso_parts.specs.Mti.{mti_size}
use Rattle.iso_wire.specs.Reading.{◌>>=◌, halt, secondary_at, words_at, elements_at, message_at}
use Rattle.iso_parts.specs.Numbers.{members}

-- where what was read ends, without what it was
abbrev pub end_of : {A : Type 0} → Result (A × ℕ) UnpackFault → Result ℕ UnpackFault
end_of (Ok x) = Ok x.1
end_of (Err e) = Err e

-- the end of the elements with the numbers, the first of which begins at an offset
abbrev pub end_of_elements : List (Option FieldSpec) → List ℕ → ℕ → List ℕ → Result ℕ UnpackFault
end_of_elements rows ns at b = end_of (elements_at rows ns at (drop at b))

-- where the body of element n ends, which begins at an offset
abbrev pub end_by : ℕ → ℕ → Result (Option ℕ) FieldFault → Result ℕ UnpackFault
end_by n at (Ok (Some size)) = Ok (at + size)
end_by n at (Ok None) = halt n at Short
end_by n at (Err e) = halt n at (Field e)

-- where the body of element n ends, of so many characters, under its row
abbrev pub body_end : FieldSpec → ℕ → ℕ → ℕ → List ℕ → Result ℕ UnpackFault
body_end s n count at b = end_by n at (size_at s count (drop at b))

-- the same where element n may have no row
abbrev pub body_end_under : Option FieldSpec → ℕ → ℕ → ℕ → List ℕ → Result ℕ UnpackFault
body_end_under None n count at b = halt n at (UnknownElement n)
body_end_under (Some s) n count at b = body_end s n count at b

-- the end of the elements with the numbers behind a body, whose end is given
abbrev pub behind_body : List (Option FieldSpec) → List ℕ → List ℕ → ℕ → Result ℕ UnpackFault
behind_body rows ns b end = end_of_elements rows ns end b

-- the end of the elements behind the bitmaps, whose words and size are given
abbrev pub behind_maps : Layout → List ℕ → ℕ × ℕ × ℕ → Result ℕ UnpackFault
behind_maps t b w = end_of_elements t.rows (numbers_in w.0 w.1) (mti_size t.mti + w.2) b

-- the words, where the primary one was read
abbrev pub secondary_words : Layout → ℕ → List ℕ → Result (ℕ × ℕ × ℕ) UnpackFault
secondary_words t primary b = do
  secondary ← secondary_at t (mti_size t.mti + map_size t.bitmap)
      (drop (map_size t.bitmap) (drop (mti_size t.mti) b))
  Ok (primary, secondary, map_size t.bitmap + map_size t.bitmap)

-- where the message ends that the bytes begin with, read on from a point
abbrev pub ends_from : Layout → ResumePoint → List ℕ → Result ℕ UnpackFault
ends_from t points.Type b = end_of (message_at t b)
ends_from t points.Primary b =
    words_at t (mti_size t.mti) (drop (mti_size t.mti) b) >>= behind_maps t b
ends_from t (points.Secondary primary) b = secondary_words t primary b >>= behind_maps t b
ends_from t (points.Elements rest at) b = end_of_elements t.rows (members rest) at b
ends_from t (points.Body n count rest at) b =
    body_end_under (row_at t.rows n) n count at b >>= behind_body t.rows (members rest) b

-- the bytes reach up to the point's piece, and the count of a body is one that its row takes
abbrev pub IsPointWithin : Layout → ResumePoint → List ℕ → Type 0
IsPointWithin t points.Type b = Unit {0}
IsPointWithin t points.Primary b = mti_size t.mti ≤ length b
IsPointWithin t (points.Secondary primary) b = mti_size t.mti + map_size t.bitmap ≤ length b
IsPointWithin t (points.Elements rest at) b = at ≤ length b
IsPointWithin t (points.Body n count rest at) b = (at ≤ length b)
    × ((s : FieldSpec) → row_at t.rows n ≡ Some s → count ≤ s.max)

-- whatever follows the bytes, reading goes on alike from both points
abbrev pub GoesOn : Layout → ResumePoint → ResumePoint → List ℕ → Type 0
GoesOn t from to b = (x : List ℕ) → ends_from t from (b ++ x) ≡ ends_from t to (b ++ x)

-- judging came from one point to another one, and there the bytes end, the message ends, or a piece is bad
pub record Resumes (t : Layout) (from : ResumePoint) (b : List ℕ) (to : ResumePoint)
    (answer : Result ℕ UnpackFault) : Type 0 where
  pub read : ends_from t to b ≡ answer
  pub goes_on : GoesOn t from to b
  pub within : IsPointWithin t to b

-- judging came behind a part, where the other elements go on; or it stopped within the part
abbrev pub PassesPart : Layout → ResumePoint → List ℕ → Bitmap → Result ℕ JudgingStop → Type 0
PassesPart t from b rest (Ok end) = GoesOn t from (points.Elements rest end) b × (end ≤ length b)
PassesPart t from b rest (Err stop) = Resumes t from b stop.point (Err stop.fault)

-- reading the whole is reading on from the point, whatever follows the bytes
abbrev pub IsResumed : Layout → ResumePoint → List ℕ → Type 0
IsResumed t point b = IsPointWithin t point b × GoesOn t points.Type point b
