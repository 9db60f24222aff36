-- Which tables are accepted, and what is wrong with the others.
use Rattle.std.specs.Option.{option_or}
use Rattle.std.specs.Prelude.{◌≡◌, ◌≢◌, ℕ, ◌==◌, Bool, not, is_some, IsTrue, if◌then◌else◌, List, [], ◌∷◌, ◌++◌, Option, Some, None}
use Rattle.iso_parts.specs.Numbers.{is_element}
use Rattle.iso_parts.specs.declared.digits.Digits.{Digits}
use Rattle.iso_parts.specs.declared.spec.FieldSpec.{FieldSpec}
use Rattle.iso_parts.specs.declared.spec.SpecFault.{SpecFault}
use Rattle.iso_parts.specs.declared.spec.SpecFault.TheVariants as specs
use Rattle.iso_parts.specs.Spec.{IsGood, spec_fault}
use Rattle.iso_parts.specs.declared.bitmap.BitmapCoding.{BitmapCoding}
use Rattle.iso_table.specs.declared.draft.Row.{Row}
use Rattle.iso_table.specs.declared.draft.Draft.{Draft}
use Rattle.iso_table.specs.declared.fault.TableFault.{TableFault}
use Rattle.iso_table.specs.declared.fault.TableFault.TheVariants.{BadVersion, BadNumber, Twice, BadMax, CodingClass, PadNotAllowed}
use Rattle.iso_table.specs.Layout.{Layout, row_at, is_version}

-- what a draft says, without where its rows lie in memory
pub record DraftContents : Type 0 where
  pub version : ℕ
  pub mti : Digits
  pub bitmap : BitmapCoding
  pub rows : List Row

-- the contents of a draft
abbrev pub contents : Draft → DraftContents
contents d = record { version = d.version; mti = d.mti; bitmap = d.bitmap; rows = d.rows.items }

-- ---- accepted

-- each row is of an element, and good
abbrev pub AreRows : List Row → Type 0
AreRows [] = Unit {0}
AreRows (r ∷ rs) = IsTrue (is_element r.number) × IsGood r.spec × AreRows rs

-- the rows have other numbers than the row
abbrev pub OtherNumbers : Row → List Row → Type 0
OtherNumbers r [] = Unit {0}
OtherNumbers r (q ∷ qs) = (q.number ≢ r.number) × OtherNumbers r qs

-- no two rows have one number
abbrev pub HasEachOnce : List Row → Type 0
HasEachOnce [] = Unit {0}
HasEachOnce (r ∷ rs) = OtherNumbers r rs × HasEachOnce rs

-- a table may be made of it
pub record IsAcceptable (d : DraftContents) : Type 0 where
  pub version : IsTrue (is_version d.version)
  pub rows : AreRows d.rows
  pub once : HasEachOnce d.rows

-- ---- the rows of a table

-- the first row with the number n
abbrev pub row_of : List Row → ℕ → Option FieldSpec
row_of [] n = None
row_of (r ∷ rs) n = if r.number == n then Some r.spec else row_of rs n

-- the table says what the draft says
pub record Holds (t : Layout) (d : DraftContents) : Type 0 where
  pub version : t.version ≡ d.version
  pub mti : t.mti ≡ d.mti
  pub bitmap : t.bitmap ≡ d.bitmap
  pub rows : (n : ℕ) → row_at t.rows n ≡ row_of d.rows n

-- ---- the first fault

-- a row's fault as a fault of the table that has it as row n
abbrev pub as_table_fault : ℕ → SpecFault → TableFault
as_table_fault n specs.BadMax = BadMax n
as_table_fault n specs.CodingClass = CodingClass n
as_table_fault n specs.PadNotAllowed = PadNotAllowed n

-- a row's fault, if any, as the table's
abbrev pub at_row : ℕ → Option SpecFault → Option TableFault
at_row n None = None
at_row n (Some e) = Some (as_table_fault n e)

-- what is wrong with a row, whose number an earlier row has or hasn't
abbrev pub row_fault : Bool → Row → Option TableFault
row_fault is_used r =
    if not (is_element r.number) then Some (BadNumber r.number)
    else if is_used then Some (Twice r.number)
    else at_row r.number (spec_fault r.spec)

-- the first thing that is wrong with rows that stand behind earlier ones
abbrev pub rows_fault : List Row → List Row → Option TableFault
rows_fault earlier [] = None
rows_fault earlier (r ∷ rs) =
    option_or (row_fault (is_some (row_of earlier r.number)) r) (rows_fault (earlier ++ r ∷ []) rs)

-- the first thing that is wrong: the version, and then row by row
abbrev pub draft_fault : DraftContents → Option TableFault
draft_fault d = if not (is_version d.version) then Some BadVersion else rows_fault [] d.rows

-- one row has this fault, and the rows before it are good and have other numbers each
pub record IsFirstFault (rows : List Row) (e : TableFault) : Type 0 where
  pub before : List Row
  pub bad : Row
  pub behind : List Row
  pub split : rows ≡ before ++ bad ∷ behind
  pub good : AreRows before
  pub once : HasEachOnce before
  pub fault : row_fault (is_some (row_of before bad.number)) bad ≡ Some e
