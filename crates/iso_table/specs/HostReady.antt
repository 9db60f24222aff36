-- The rows that an issuer host needs of a table: under them every response can be written.
use Rattle.std.specs.Option.{option_or}
use Rattle.std.specs.Prelude.{◌≡◌, ℕ, Bool, true, false, ◌==◌, ◌&&◌, nat_le, IsTrue, if◌then◌else◌, List, [], ◌∷◌, ◌++◌, Option, Some, None}
use Rattle.iso_parts.specs.declared.class.CharClass.{CharClass}
use Rattle.iso_parts.specs.declared.class.CharClass.TheVariants as classes
use Rattle.iso_parts.specs.declared.prefix.Length.{Length}
use Rattle.iso_parts.specs.declared.prefix.Length.TheVariants as lengths
use Rattle.iso_parts.specs.declared.padding.Pad.{Pad}
use Rattle.iso_parts.specs.declared.padding.Pad.TheVariants as pads
use Rattle.iso_parts.specs.declared.spec.FieldSpec.{FieldSpec}
use Rattle.iso_table.specs.declared.host_ready.Shape.{Shape}
use Rattle.iso_table.specs.declared.host_ready.Shape.TheVariants.{Digits, DigitsUpTo, Text, Amounts, AnyUpTo}
use Rattle.iso_table.specs.declared.host_ready.HostRow.{HostRow}
use Rattle.iso_table.specs.declared.fault.HostTableFault.{HostTableFault}
use Rattle.iso_table.specs.declared.fault.HostTableFault.TheVariants.{NotVersion0, NoRow, RowShape}
use Rattle.iso_table.specs.Layout.{Layout, row_at}

-- ---- the shape of a row

-- digits alone
abbrev pub is_n : CharClass → Bool
is_n classes.N = true
is_n c = false

-- letters and digits can be written
abbrev pub is_an : CharClass → Bool
is_an classes.AN = true
is_an classes.ANS = true
is_an c = false

-- digits can be written
abbrev pub is_n_or_an : CharClass → Bool
is_n_or_an classes.N = true
is_n_or_an c = is_an c

-- no length stands before the value
abbrev pub is_fixed : Length → Bool
is_fixed lengths.Fixed = true
is_fixed l = false

-- two or three digits tell the length
abbrev pub is_ll_or_lll : Length → Bool
is_ll_or_lll (lengths.LL d) = true
is_ll_or_lll (lengths.LLL d) = true
is_ll_or_lll (lengths.LLLL d) = false
is_ll_or_lll lengths.Fixed = false

-- nothing fills a value up
abbrev pub is_unpadded : Pad → Bool
is_unpadded pads.None = true
is_unpadded p = false

-- whether the row has the shape
abbrev pub is_shape : Shape → FieldSpec → Bool
is_shape (Digits n) s = is_n s.class && is_fixed s.length && (s.max == n) && is_unpadded s.pad
is_shape (DigitsUpTo n) s =
    is_n s.class && is_ll_or_lll s.length && nat_le s.max n && is_unpadded s.pad
is_shape (Text n) s = is_n_or_an s.class && is_fixed s.length && (s.max == n) && is_unpadded s.pad
is_shape Amounts s = is_an s.class && is_ll_or_lll s.length && nat_le 20 s.max && is_unpadded s.pad
is_shape (AnyUpTo n) s = nat_le s.max n

-- ---- the rows

-- an element, whether it needs a row, and the row's shape
abbrev pub host_row : ℕ → Bool → Shape → HostRow
host_row number needed shape = record { number = number; needed = needed; shape = shape }

-- the elements of requests and responses whose rows are judged, whether a row is needed, and its shape; 95 isn't among them:
-- without its row no partial reversal is read
abbrev pub host_rows : List HostRow
host_rows =
    host_row 2 true (DigitsUpTo 19) ∷
    host_row 3 true (Digits 6) ∷
    host_row 4 true (Digits 12) ∷
    host_row 7 true (Digits 10) ∷
    host_row 11 true (Digits 6) ∷
    host_row 12 false (AnyUpTo 99) ∷
    host_row 13 false (AnyUpTo 99) ∷
    host_row 32 true (DigitsUpTo 11) ∷
    host_row 33 false (AnyUpTo 99) ∷
    host_row 37 false (AnyUpTo 99) ∷
    host_row 38 true (Text 6) ∷
    host_row 39 true (Text 2) ∷
    host_row 41 false (AnyUpTo 99) ∷
    host_row 42 false (AnyUpTo 99) ∷
    host_row 49 true (Text 3) ∷
    host_row 54 true Amounts ∷
    host_row 70 true (Digits 3) ∷
    host_row 90 true (Digits 42) ∷ []

-- what is wrong with an element's row, if anything
abbrev pub host_row_fault : HostRow → Option FieldSpec → Option HostTableFault
host_row_fault h None = if h.needed then Some (NoRow h.number) else None
host_row_fault h (Some s) = if is_shape h.shape s then None else Some (RowShape h.number)

-- the first thing that is wrong among the elements, in ascending number
abbrev pub host_rows_fault : List HostRow → List (Option FieldSpec) → Option HostTableFault
host_rows_fault [] rows = None
host_rows_fault (h ∷ hs) rows =
    option_or (host_row_fault h (row_at rows h.number)) (host_rows_fault hs rows)

-- the first thing that is wrong: the version, then the rows
abbrev pub host_fault : Layout → Option HostTableFault
host_fault t = if t.version == 0 then host_rows_fault host_rows t.rows else Some NotVersion0

-- ---- a table for a host

-- the row that is there has the shape, and a needed one is there
abbrev pub IsHostRow : HostRow → Option FieldSpec → Type 0
IsHostRow h None = h.needed ≡ false
IsHostRow h (Some s) = IsTrue (is_shape h.shape s)

-- each of these elements has the row that a host needs
abbrev pub AreHostRows : List HostRow → List (Option FieldSpec) → Type 0
AreHostRows [] rows = Unit {0}
AreHostRows (h ∷ hs) rows = IsHostRow h (row_at rows h.number) × AreHostRows hs rows

-- the table has version 0 and each row that a host needs
pub record IsHostReady (t : Layout) : Type 0 where
  pub version : t.version ≡ 0
  pub rows : AreHostRows host_rows t.rows

-- one of the rows that a host needs has this fault, and those before it are as they have to be
pub record IsFirstHostFault (rows : List (Option FieldSpec)) (e : HostTableFault) : Type 0 where
  pub before : List HostRow
  pub bad : HostRow
  pub behind : List HostRow
  pub split : host_rows ≡ before ++ bad ∷ behind
  pub good : AreHostRows before rows
  pub fault : host_row_fault bad (row_at rows bad.number) ≡ Some e
