-- What a document says of the type and of each element of a message, and what is complained of.
use Rattle.std.specs.Prelude.{ℕ, ◌+◌, ◌*◌, ◌==◌, ◌||◌, Bool, false, if◌then◌else◌, Vec, List, [], ◌∷◌, ◌++◌, Option, Some, None, Result, Ok, Err}
use Rattle.json.specs.Json.{Json, null, boolean, number, string, array, object, Members, no_members, member}
use Rattle.json.specs.Find.{as_str}
use Rattle.iso_parts.specs.Mti.{digits_in, mti_number}
use Rattle.iso_parts.specs.declared.mti.Mti.{Mti}
use Rattle.iso_parts.specs.declared.spec.FieldSpec.{FieldSpec}
use Rattle.iso_table.specs.Layout.{row_at}
use Rattle.iso_wire.specs.Contents.{Contents}
use Rattle.iso_wire.specs.Elements.{put}
use Rattle.iso_json.specs.declared.complaint.Complaint.{Complaint}
use Rattle.iso_json.specs.declared.complaint.Place.{Place}
use Rattle.iso_json.specs.declared.complaint.Place.TheVariants as places
use Rattle.iso_json.specs.declared.complaint.Trouble.{Trouble}
use Rattle.iso_json.specs.declared.complaint.Trouble.TheVariants as troubles
use Rattle.iso_json.specs.Texts.{number_of, value_of}

-- ---- complaints

-- a complaint of no element
abbrev pub complaint : Place → Trouble → Complaint
complaint place trouble = record { place = place; element = None; trouble = trouble }

-- a complaint of element n
abbrev pub complaint_of : Place → ℕ → Trouble → Complaint
complaint_of place n trouble = record { place = place; element = Some n; trouble = trouble }

-- the complaint, if there is trouble
abbrev pub complained : Place → Option Trouble → List Complaint
complained place None = []
complained place (Some trouble) = complaint place trouble ∷ []

-- ---- the type

-- the type of these digits, if it is of the version
abbrev pub of_version : ℕ → ℕ × ℕ × ℕ × ℕ → Result ℕ Trouble
of_version version d =
    if d.0 == version then Ok (1000 * d.0 + 100 * d.1 + 10 * d.2 + d.3)
    else Err troubles.WrongVersion

-- the same of the digits that were found, if any were
abbrev pub type_of : ℕ → Option (ℕ × ℕ × ℕ × ℕ) → Result ℕ Trouble
type_of version None = Err troubles.BadMti
type_of version (Some d) = of_version version d

-- the type that a text writes, of the table's version
abbrev pub type_in : ℕ → List ℕ → Result ℕ Trouble
type_in version text = type_of version (digits_in text)

-- the type of a member's text, if the member is one
abbrev pub type_by : ℕ → Option (List ℕ) → Result ℕ Trouble
type_by version None = Err troubles.BadMti
type_by version (Some text) = type_in version text

-- the type that the member says
abbrev pub type_at : ℕ → Option Json → Result ℕ Trouble
type_at version None = Err troubles.NoMti
type_at version (Some j) = type_by version (as_str j)

-- the number of a type that was read
abbrev pub type_number : Result Mti Trouble → Result ℕ Trouble
type_number (Ok mti) = Ok (mti_number mti)
type_number (Err t) = Err t

-- the type, or 0 in place of one that is refused
abbrev pub or_zero : Result ℕ Trouble → ℕ
or_zero (Ok n) = n
or_zero (Err t) = 0

-- why the type is refused, if it is
abbrev pub trouble_in : Result ℕ Trouble → Option Trouble
trouble_in (Ok n) = None
trouble_in (Err t) = Some t

-- ---- the elements

-- elements that were read, and complaints of others
pub record Heard : Type 0 where
  pub elements : List (ℕ × List ℕ)
  pub complaints : List Complaint

-- what a message and a list of complaints hold
abbrev pub heard : {A : Type 0} → Contents → Vec Complaint A → Heard
heard m cs = record { elements = m.elements; complaints = cs.items }

-- the value that a text says of element n, if there is a text
abbrev pub text_value : List (Option FieldSpec) → ℕ → Option (List ℕ) → Result (List ℕ) Trouble
text_value rows n None = Err troubles.NotText
text_value rows n (Some text) = value_of (row_at rows n) n text

-- the value that a member says of element n
abbrev pub entry_value : List (Option FieldSpec) → (ℕ → Bool) → ℕ → Json → Result (List ℕ) Trouble
entry_value rows seen n j = if seen n then Err troubles.Twice else text_value rows n (as_str j)

-- one value more is read as element n, or complained of
abbrev pub with_value : Place → ℕ → Result (List ℕ) Trouble → Heard → Heard
with_value place n (Ok v) heard =
    record { elements = put n v heard.elements; complaints = heard.complaints }
with_value place n (Err t) heard = record {
  elements = heard.elements;
  complaints = heard.complaints ++ complaint_of place n t ∷ [];
}

-- one complaint more, of no element
abbrev pub with_complaint : Complaint → Heard → Heard
with_complaint c heard =
    record { elements = heard.elements; complaints = heard.complaints ++ c ∷ [] }

-- the number is seen too
abbrev pub also : ℕ → (ℕ → Bool) → ℕ → Bool
also n seen k = k == n || seen k

-- no number is seen
abbrev pub none_seen : ℕ → Bool
none_seen k = false

-- a member of the elements: how many stand before it, the number that its name stands for, if any, and its value
pub record Entry : Type 0 where
  pub at : ℕ
  pub number : Option ℕ
  pub value : Json

-- the entry of this number, where these elements were seen
abbrev pub with_numbered : Option ℕ → List (Option FieldSpec) → (ℕ → Bool) → Entry → Heard → Heard
with_numbered None rows seen entry heard =
    with_complaint (complaint (places.Entry (entry.at + 1)) troubles.BadNumber) heard
with_numbered (Some n) rows seen entry heard =
    with_value (places.Entry (entry.at + 1)) n (entry_value rows seen n entry.value) heard

-- the entry, where these elements were seen
abbrev pub with_entry : List (Option FieldSpec) → (ℕ → Bool) → Entry → Heard → Heard
with_entry rows seen entry heard = with_numbered entry.number rows seen entry heard

-- the number that a name stands for is seen too, if it stands for one
abbrev pub seen_with : Option ℕ → (ℕ → Bool) → ℕ → Bool
seen_with None seen = seen
seen_with (Some n) seen = also n seen

-- the members behind so many others, one after another
abbrev pub with_entries : List (Option FieldSpec) → (ℕ → Bool) → ℕ → Members → Heard → Heard
with_entries rows seen at no_members heard = heard
with_entries rows seen at (member k j ms) heard =
    with_entries rows (seen_with (number_of k) seen) (at + 1) ms
    (with_entry rows seen (record { at = at; number = number_of k; value = j }) heard)

-- the elements that a JSON value says
abbrev pub with_elements_of : List (Option FieldSpec) → Json → Heard → Heard
with_elements_of rows null heard =
    with_complaint (complaint places.Whole troubles.BadElements) heard
with_elements_of rows (boolean b) heard =
    with_complaint (complaint places.Whole troubles.BadElements) heard
with_elements_of rows (number s) heard =
    with_complaint (complaint places.Whole troubles.BadElements) heard
with_elements_of rows (string s) heard =
    with_complaint (complaint places.Whole troubles.BadElements) heard
with_elements_of rows (array js) heard =
    with_complaint (complaint places.Whole troubles.BadElements) heard
with_elements_of rows (object ms) heard = with_entries rows none_seen 0 ms heard

-- the elements that the member says, which may be missing
abbrev pub with_elements : List (Option FieldSpec) → Option Json → Heard → Heard
with_elements rows None heard = with_complaint (complaint places.Whole troubles.NoElements) heard
with_elements rows (Some j) heard = with_elements_of rows j heard
