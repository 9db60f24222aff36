-- Why a message has no spelling under a table.
use Rattle.std.specs.Option.{option_or}
use Rattle.std.specs.Prelude.{◌≡◌, ℕ, ◌/◌, ◌==◌, if◌then◌else◌, List, [], ◌∷◌, ◌++◌, Option, Some, None}
use Rattle.iso_parts.specs.declared.spec.FieldSpec.{FieldSpec}
use Rattle.iso_parts.specs.declared.fault.FieldFault.{FieldFault}
use Rattle.iso_parts.specs.declared.fault.FieldFault.TheVariants as fields
use Rattle.iso_parts.specs.Spec.{refusal}
use Rattle.iso_wire.specs.declared.fault.PackFault.{PackFault}
use Rattle.iso_wire.specs.declared.fault.PackFault.TheVariants.{WrongVersion, NoRow, WrongLength, NotInClass, PadEnd, Memory}
use Rattle.iso_wire.specs.Contents.{Contents}
use Rattle.iso_table.specs.Layout.{Layout, row_at}

-- why a value is refused as element n
abbrev pub as_pack : ℕ → FieldFault → PackFault
as_pack n fields.WrongLength = WrongLength n
as_pack n fields.NotInClass = NotInClass n
as_pack n fields.PadEnd = PadEnd n
as_pack n e = Memory

-- the same, if it is refused
abbrev pub refused_field : ℕ → Option FieldFault → Option PackFault
refused_field n None = None
refused_field n (Some e) = Some (as_pack n e)

-- why element n with this value is refused under its row, if it is
abbrev pub refused_by : Option FieldSpec → ℕ → List ℕ → Option PackFault
refused_by None n v = Some (NoRow n)
refused_by (Some s) n v = refused_field n (refusal s v)

-- the first refusal among the elements
abbrev pub first_refusal : List (Option FieldSpec) → List (ℕ × List ℕ) → Option PackFault
first_refusal rows [] = None
first_refusal rows (e ∷ es) =
    option_or (refused_by (row_at rows e.0) e.0 e.1) (first_refusal rows es)

-- why a message is refused: the version first, then its elements in ascending order
abbrev pub message_refusal : Layout → Contents → Option PackFault
message_refusal t m =
    if m.mti / 1000 == t.version then first_refusal t.rows m.elements else Some WrongVersion

-- no element is refused
abbrev pub AreTaken : List (Option FieldSpec) → List (ℕ × List ℕ) → Type 0
AreTaken rows [] = Unit {0}
AreTaken rows (e ∷ es) = (refused_by (row_at rows e.0) e.0 e.1 ≡ None) × AreTaken rows es

-- one element is refused for this reason, and no element before it is refused
pub record IsFirstRefusal (rows : List (Option FieldSpec)) (es : List (ℕ × List ℕ))
    (e : PackFault) : Type 0 where
  pub before : List (ℕ × List ℕ)
  pub bad : ℕ × List ℕ
  pub behind : List (ℕ × List ℕ)
  pub split : es ≡ before ++ bad ∷ behind
  pub taken : AreTaken rows before
  pub refusal : refused_by (row_at rows bad.0) bad.0 bad.1 ≡ Some e
