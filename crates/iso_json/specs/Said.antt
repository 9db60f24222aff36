-- A message from a JSON document: what its members say, and all that is wrong.
use Rattle.std.specs.Prelude.{◌≡◌, ◌≢◌, ℕ, ◌+◌, ◌||◌, ◌⊎◌, Bool, false, if◌then◌else◌, List, [], ◌∷◌, ◌++◌, Option, Some, None, Result, Ok, Err, codes}
use Rattle.std.specs.Str.{IsUtf8, bytes_eq}
use Rattle.json.specs.Json.{Json, null, boolean, number, string, array, object, Members, no_members, member, document}
use Rattle.json.specs.Find.{get_member}
use Rattle.iso_table.specs.Layout.{Layout}
use Rattle.iso_wire.specs.Contents.{Contents}
use Rattle.iso_json.specs.declared.complaint.Complaint.{Complaint}
use Rattle.iso_json.specs.declared.complaint.Place.TheVariants as places
use Rattle.iso_json.specs.declared.complaint.Refusal.{Refusal}
use Rattle.iso_json.specs.declared.complaint.Refusal.TheVariants as refusals
use Rattle.iso_json.specs.declared.complaint.Trouble.{Trouble}
use Rattle.iso_json.specs.declared.complaint.Trouble.TheVariants as troubles
use Rattle.iso_json.specs.Heard.{complaint, complained, type_at, or_zero, trouble_in, Heard, with_elements}

-- ---- the members of a message

-- the name of the member that says the type
abbrev pub mti_key : List ℕ
mti_key = codes "mti"

-- the name of the member that says the elements
abbrev pub elements_key : List ℕ
elements_key = codes "elements"

-- a name that stands there again is wrong
abbrev pub twice_if : Bool → Option Trouble
twice_if again = if again then Some troubles.Twice else None

-- what is wrong with a member's name, where the type or the elements stood before it or not
abbrev pub name_trouble : Bool → Bool → List ℕ → Option Trouble
name_trouble has_mti has_elements key =
    if bytes_eq key mti_key then twice_if has_mti
    else if bytes_eq key elements_key then twice_if has_elements
    else Some troubles.UnknownMember

-- what is wrong with the names of the members behind so many others
abbrev pub names_from : Bool → Bool → ℕ → Members → List Complaint
names_from has_mti has_elements at no_members = []
names_from has_mti has_elements at (member k j ms) =
    complained (places.Member (at + 1)) (name_trouble has_mti has_elements k)
    ++ names_from (has_mti || bytes_eq k mti_key) (has_elements || bytes_eq k elements_key)
    (at + 1) ms

-- what an object's members say, and all that is wrong: their names, then the type, then the elements
abbrev pub heard_in : Layout → Members → Heard
heard_in t ms =
    with_elements t.rows (get_member elements_key ms)
    (record {
      elements = [];
      complaints = names_from false false 0 ms
          ++ complained places.Whole (trouble_in (type_at t.version (get_member mti_key ms)));
    })

-- the message that the members say
abbrev pub contents_of : Layout → Members → Contents
contents_of t ms =
    record {
      mti = or_zero (type_at t.version (get_member mti_key ms));
      elements = (heard_in t ms).elements;
    }

-- what is wrong with a value that isn't an object
abbrev pub not_object : List Complaint
not_object = complaint places.Whole troubles.NotObject ∷ []

-- all that is wrong with a JSON value
abbrev pub complaints_in : Layout → Json → List Complaint
complaints_in t null = not_object
complaints_in t (boolean b) = not_object
complaints_in t (number s) = not_object
complaints_in t (string s) = not_object
complaints_in t (array js) = not_object
complaints_in t (object ms) = (heard_in t ms).complaints

-- the JSON value is an object with nothing wrong, and says the message
abbrev pub Says : Layout → Json → Contents → Type 0
Says t j m = (ms : Members) × (j ≡ object ms) × ((heard_in t ms).complaints ≡ [])
    × (m ≡ contents_of t ms)

-- a function answers the message that the value says, or all that is wrong with it; nothing is said where memory ran out
abbrev pub Reads : Layout → Json → Result Contents Refusal → Type 0
Reads t j (Ok m) = Says t j m
Reads t j (Err (refusals.Complaints cs)) = (cs.items ≡ complaints_in t j) × (cs.items ≢ [])
Reads t j (Err refusals.Memory) = Unit {0}

-- a refusal of what is no object
abbrev pub IsNotObject : Refusal → Type 0
IsNotObject (refusals.Complaints cs) = cs.items ≡ not_object
IsNotObject refusals.Memory = Unit {0}

-- the text is JSON, and says the message
abbrev pub IsMessage : Layout → List ℕ → Contents → Type 0
IsMessage t text m = (j : Json) × IsUtf8 text × (document text ≡ Some j) × Says t j m

-- the text is no JSON
abbrev pub IsNotJson : List ℕ → Type 0
IsNotJson text = IsUtf8 text → document text ≡ None

-- the only complaint, at a spot of the text
abbrev pub IsSpotted : List Complaint → Type 0
IsSpotted cs = (line : ℕ) × (column : ℕ)
    × (cs ≡ complaint (places.Spot line column) troubles.NotJson ∷ [])

-- a refusal of what is no JSON
abbrev pub IsNotJsonAt : Refusal → Type 0
IsNotJsonAt (refusals.Complaints cs) = IsSpotted cs.items
IsNotJsonAt refusals.Memory = Unit {0}

-- all that is wrong with the text
abbrev pub ArisesFrom : Layout → List ℕ → List Complaint → Type 0
ArisesFrom t text cs = (IsNotJson text × IsSpotted cs)
    ⊎ ((j : Json) × IsUtf8 text × (document text ≡ Some j) × (cs ≡ complaints_in t j) × (cs ≢ []))

-- the refusal is of all that is wrong with the text; nothing is said where memory ran out
abbrev pub AreOf : Layout → List ℕ → Refusal → Type 0
AreOf t text (refusals.Complaints cs) = ArisesFrom t text cs.items
AreOf t text refusals.Memory = Unit {0}
