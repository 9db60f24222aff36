-- Changes to the rows of a draft.
use Rattle.std.specs.Option.{option_or}
use Rattle.std.specs.Prelude.{ℕ, ◌==◌, not, filter, if◌then◌else◌, List, [], ◌∷◌, Option, Some, None, option_map, unwrap_or, Result, Ok, Err}
use Rattle.iso_parts.specs.declared.encoding.Coding.TheVariants as codings
use Rattle.iso_parts.specs.declared.digits.Digits.{Digits}
use Rattle.iso_parts.specs.declared.prefix.Length.{Length}
use Rattle.iso_parts.specs.declared.prefix.Length.TheVariants as lengths
use Rattle.iso_parts.specs.declared.padding.Pad.TheVariants as pads
use Rattle.iso_parts.specs.declared.spec.FieldSpec.{FieldSpec}
use Rattle.iso_table.specs.declared.draft.Row.{Row}
use Rattle.iso_table.specs.Accepted.{DraftContents, row_of}
use Rattle.iso_table.specs.Document.{prefix_named}
use Rattle.iso_review.specs.declared.change.RowChange.{RowChange}
use Rattle.iso_review.specs.declared.change.RowFault.{RowFault}
use Rattle.iso_review.specs.declared.change.RowFault.TheVariants.{Missing, PrefixOfFixed}
use Rattle.iso_review.specs.declared.change.Member.{Member}
use Rattle.iso_review.specs.declared.change.Member.TheVariants as members
use Rattle.iso_review.specs.declared.kinds.LengthKind.{LengthKind}
use Rattle.iso_review.specs.declared.kinds.LengthKind.TheVariants as kinds
use Rattle.iso_review.specs.Kinds.{kind_of, with_digits}

-- what a step gives, handed to the next one
infixl 10 ◌>>=◌
-- a step, and the next one where the first gave something
abbrev pub ◌>>=◌ : {X Y : Type 0} → Result X RowFault → (X → Result Y RowFault) → Result Y RowFault
Err e >>= f = Err e
Ok x >>= f = f x

-- the member, or that it is missing
abbrev pub or_missing : {X : Type 0} → Member → Option X → Result X RowFault
or_missing m None = Err (Missing m)
or_missing m (Some x) = Ok x

-- the length of the kind: its digits as they are given, else as the row has them, else as the table has them
abbrev pub length_by : Option Digits → Option Digits → Digits → LengthKind → Result Length RowFault
length_by (Some d) old digits kinds.Fixed = Err PrefixOfFixed
length_by None old digits kinds.Fixed = Ok lengths.Fixed
length_by given old digits k = Ok (with_digits k (unwrap_or (option_or given old) digits))

-- how the digits of the row's length are written
abbrev pub old_digits : Option FieldSpec → Option Digits
old_digits None = None
old_digits (Some s) = prefix_named s.length

-- the row that a change makes of the row that is there, if one is, in a table of these digits
abbrev pub changed : RowChange → Option FieldSpec → Digits → Result FieldSpec RowFault
changed c old digits = do
  class ← or_missing members.Class (option_or c.class (option_map (λ s. s.class) old))
  kind ← or_missing members.Length (option_or c.length (option_map (λ s. kind_of s.length) old))
  length ← length_by c.prefix (old_digits old) digits kind
  max ← or_missing members.Max (option_or c.max (option_map (λ s. s.max) old))
  Ok (record {
    class = class;
    coding = unwrap_or (option_or c.coding (option_map (λ s. s.coding) old)) codings.Ascii;
    length = length;
    max = max;
    pad = unwrap_or (option_or c.pad (option_map (λ s. s.pad) old)) pads.None;
  })

-- the rows with this one in the place of the first of its number, or behind them
abbrev pub put_row : Row → List Row → List Row
put_row r [] = r ∷ []
put_row r (q ∷ qs) = if q.number == r.number then r ∷ qs else q ∷ put_row r qs

-- a draft with the row
abbrev pub with_row : DraftContents → Row → DraftContents
with_row d r =
    record { version = d.version; mti = d.mti; bitmap = d.bitmap; rows = put_row r d.rows }

-- a draft without the rows of the number
abbrev pub without_row : DraftContents → ℕ → DraftContents
without_row d n = record {
  version = d.version;
  mti = d.mti;
  bitmap = d.bitmap;
  rows = filter (λ r. not (r.number == n)) d.rows;
}

-- the draft with the row that the change makes, or why there is none
abbrev pub applied : DraftContents → RowChange → Result DraftContents RowFault
applied d c = changed c (row_of d.rows c.number) d.mti
    >>= (λ s. Ok (with_row d (record { number = c.number; spec = s })))
