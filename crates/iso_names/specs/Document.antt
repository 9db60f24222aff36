-- Own names as a JSON document: an object from element numbers to names.
use Rattle.std.specs.Prelude.{◌≡◌, ℕ, ◌+◌, ◌-◌, ◌*◌, ◌==◌, ◌&&◌, nat_le, Bool, true, false, List, [], ◌∷◌, ◌++◌, Option, None, Some, option_and_then, Result, Ok, Err, if◌then◌else◌, string_bytes}
use Rattle.std.specs.List.{list_any}
use Rattle.std.specs.Str.{IsUtf8, chars}
use Rattle.std.specs.Char.{is_control}
use Rattle.serde_json.specs.Data.{Data, Members, no_members, member}
use Rattle.serde_json.specs.Find.{as_object, as_str}
use Rattle.serde_json.specs.Read.{read}
use Rattle.iso_parts.specs.Class.{is_digit}
use Rattle.iso_parts.specs.Numbers.{is_element}
use Rattle.iso_names.specs.declared.fault.NamesFault.{NamesFault}
use Rattle.iso_names.specs.declared.fault.NamesFault.TheVariants as faults
use Rattle.iso_names.specs.Own.{Own, NetworkNames}

-- what is wrong with a JSON value: it is no object, a key is no element's number, an element's name is none
pub data Wrong : Type 0 where
  no_object : Wrong
  bad_key : List ℕ → Wrong
  no_text : ℕ → Wrong
  control_character : ℕ → Wrong

-- what a fault says of the JSON value, if it speaks of it
abbrev pub wrong_of : NamesFault → Option Wrong
wrong_of (faults.NotJson line column) = None
wrong_of faults.NoObject = Some no_object
wrong_of (faults.BadKey key) = Some (bad_key (string_bytes key))
wrong_of (faults.NoText n) = Some (no_text n)
wrong_of (faults.ControlCharacter n) = Some (control_character n)
wrong_of faults.Memory = None

-- whether a fault says that the text is no JSON
abbrev pub is_of_text : NamesFault → Bool
is_of_text (faults.NotJson line column) = true
is_of_text faults.NoObject = false
is_of_text (faults.BadKey key) = false
is_of_text (faults.NoText n) = false
is_of_text (faults.ControlCharacter n) = false
is_of_text faults.Memory = false

-- ---- a member

-- a digit from 1 to 9
abbrev pub leads : ℕ → Bool
leads b = nat_le 49 b && nat_le b 57

-- the number, if the test holds
abbrev pub only_if : Bool → ℕ → Option ℕ
only_if holds n = if holds then Some n else None

-- the number that one to three digits write, the first of them no zero, below 200
abbrev pub number_of : List ℕ → Option ℕ
number_of [] = None
number_of (a ∷ []) = only_if (leads a) (a - 48)
number_of (a ∷ b ∷ []) = only_if (leads a && is_digit b) (10 * (a - 48) + (b - 48))
number_of (a ∷ b ∷ c ∷ []) =
    only_if (a == 49 && is_digit b && is_digit c) (100 + 10 * (b - 48) + (c - 48))
number_of (a ∷ b ∷ c ∷ d ∷ ds) = None

-- the element that a key names: its number in decimal
abbrev pub element_of : List ℕ → Option ℕ
element_of key = option_and_then (λ n. only_if (is_element n) n) (number_of key)

-- whether a text holds a control character
abbrev pub has_control : List ℕ → Bool
has_control text = list_any is_control (chars text)

-- the own name of an element that is a text, if it is one without control characters
abbrev pub named_by : ℕ → Option (List ℕ) → Result Own Wrong
named_by n None = Err (no_text n)
named_by n (Some text) =
    if has_control text then Err (control_character n) else Ok (record { element = n; name = text })

-- the own name of an element that a JSON value is
abbrev pub named : ℕ → Data → Result Own Wrong
named n d = named_by n (as_str d)

-- the own name that a member is, by the element that its key names
abbrev pub own_by : List ℕ → Data → Option ℕ → Result Own Wrong
own_by key d None = Err (bad_key key)
own_by key d (Some n) = named n d

-- the own name that a member is
abbrev pub own_in : List ℕ → Data → Result Own Wrong
own_in key d = own_by key d (element_of key)

-- ---- an object

-- other own names behind the first ones, if there are such
abbrev pub behind : List Own → Result (List Own) Wrong → Result (List Own) Wrong
behind first (Err w) = Err w
behind first (Ok rest) = Ok (first ++ rest)

-- other own names behind the first one, or the first thing wrong
abbrev pub join : Result Own Wrong → Result (List Own) Wrong → Result (List Own) Wrong
join (Err w) rest = Err w
join (Ok own) rest = behind (own ∷ []) rest

-- the own names that members are, in the order of their keys, or the first thing wrong
abbrev pub owns_in : Members → Result (List Own) Wrong
owns_in no_members = Ok []
owns_in (member k d ms) = join (own_in k d) (owns_in ms)

-- the own names of an object
abbrev pub owns_of : Option Members → Result (List Own) Wrong
owns_of None = Err no_object
owns_of (Some ms) = owns_in ms

-- the own names that a JSON value is
abbrev pub own_names : Data → Result (List Own) Wrong
own_names d = owns_of (as_object d)

-- ---- a text

-- the text is JSON, and stands for the data
abbrev pub StandsFor : List ℕ → Data → Type 0
StandsFor text d = IsUtf8 text × (read text ≡ Some d)

-- the text is no JSON
abbrev pub IsNotJson : List ℕ → Type 0
IsNotJson text = IsUtf8 text → read text ≡ None

-- the names are those of the text, laid over the version's
abbrev pub IsNamesOf : ℕ → List ℕ → NetworkNames → Type 0
IsNamesOf version text n = (d : Data) × StandsFor text d × (own_names d ≡ Ok n.own)
    × (n.version ≡ version)

-- the text is JSON, and this is the first thing wrong with it
abbrev pub IsWrong : List ℕ → Wrong → Type 0
IsWrong text w = (d : Data) × StandsFor text d × (own_names d ≡ Err w)
