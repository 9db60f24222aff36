-- The JSON of a message in clear says that very message.
use Rattle.std.specs.Prelude.{◌≡◌, ℕ, false, true, List, [], ◌∷◌, Option, None, Result, MatchResult, decimal}
use Rattle.json.specs.Json.{Json, string, object, Members, no_members, member}
use Rattle.iso_parts.specs.Digits.{four_digits_of}
use Rattle.iso_parts.specs.declared.digits.Digits.TheVariants.{Ascii}
use Rattle.iso_parts.specs.declared.spec.FieldSpec.{FieldSpec}
use Rattle.iso_table.specs.Layout.{Layout, row_at}
use Rattle.iso_wire.specs.Contents.{Contents}
use Rattle.iso_wire.specs.Describing.{class_by, clear_text}
use Rattle.iso_wire.specs.OneSpelling.{WellFormed}
use Rattle.iso_wire.specs.Refusal.{message_refusal}
use Rattle.iso_json.specs.declared.complaint.Refusal.{Refusal}
use Rattle.iso_json.specs.declared.complaint.Refusal.TheVariants as refusals
use Rattle.iso_json.specs.Said.{mti_key, elements_key, IsMessage}
use Rattle.iso_json.specs.Texts.{is_masked}
use Rattle.iso_json.specs.Written.{json_of}

-- the members of elements in clear
abbrev pub clear_members : List (Option FieldSpec) → List (ℕ × List ℕ) → Members
clear_members rows [] = no_members
clear_members rows (e ∷ es) = member (decimal e.0)
    (string (clear_text (class_by (row_at rows e.0)) e.1)) (clear_members rows es)

-- the object of a message in clear
abbrev pub clear_object : Layout → Contents → Json
clear_object t m =
    object (member mti_key (string (four_digits_of Ascii m.mti))
    (member elements_key (object (clear_members t.rows m.elements)) no_members))

-- no text of an element has stars where a description puts some
abbrev pub HasNoStars : List (Option FieldSpec) → List (ℕ × List ℕ) → Type 0
HasNoStars rows [] = Unit {0}
HasNoStars rows (e ∷ es) = (is_masked e.0 (clear_text (class_by (row_at rows e.0)) e.1) ≡ false)
    × HasNoStars rows es

-- the text is the JSON in clear of a message that the table takes, and that has no stars
pub record IsClearJson (t : Layout) (m : Contents) (text : List ℕ) : Type 0 where
  pub formed : WellFormed m
  pub accepted : message_refusal t m ≡ None
  pub no_stars : HasNoStars t.rows m.elements
  pub written : text ≡ json_of true t m

-- the message comes back, unless memory ran out
abbrev pub ComesBack : Layout → List ℕ → Result Contents Refusal → Type 0
ComesBack t text r = (m : Contents) → IsClearJson t m text
    → MatchResult r (λ read. read ≡ m) (λ e. e ≡ refusals.Memory)

-- the JSON of a message in clear says that message
abbrev pub ClearJsonSays : Type 0
ClearJsonSays = (t : Layout) (m : Contents) (text : List ℕ) → IsClearJson t m text
    → IsMessage t text m
