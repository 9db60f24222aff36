-- The value of an element, from the text that stands for it in a document.
use Rattle.std.specs.Prelude.{◌≡◌, ℕ, ◌==◌, ◌||◌, Bool, false, if◌then◌else◌, List, Option, Some, None, option_and_then, Result, Ok, Err}
use Rattle.std.specs.List.{list_any}
use Rattle.hex.specs.Hex.{decode_of}
use Rattle.hex.specs.declared.error.FromHexError.{FromHexError}
use Rattle.hex.specs.declared.error.FromHexError.TheVariants as hex
use Rattle.iso_parts.specs.Numbers.{is_element}
use Rattle.iso_parts.specs.Spec.{refusal}
use Rattle.iso_parts.specs.declared.class.CharClass.{CharClass}
use Rattle.iso_parts.specs.declared.class.CharClass.TheVariants as classes
use Rattle.iso_parts.specs.declared.fault.FieldFault.{FieldFault}
use Rattle.iso_parts.specs.declared.fault.FieldFault.TheVariants as fields
use Rattle.iso_parts.specs.declared.spec.FieldSpec.{FieldSpec}
use Rattle.iso_wire.specs.Decimal.{number_in}
use Rattle.iso_wire.specs.Masking.{is_secret}
use Rattle.iso_json.specs.declared.complaint.Trouble.{Trouble}
use Rattle.iso_json.specs.declared.complaint.Trouble.TheVariants as troubles
use Rattle.iso_json.specs.declared.values.Stop.{Stop}
use Rattle.iso_json.specs.declared.values.Stop.TheVariants as stops

-- ---- numbers

-- a number that an element may have
abbrev pub element_number : ℕ → Option ℕ
element_number n = if is_element n then Some n else None

-- the element whose number one to three digits write
abbrev pub number_of : List ℕ → Option ℕ
number_of key = option_and_then element_number (number_in 1 3 key)

-- ---- values

-- whether a description hides some of the element's value
abbrev pub is_hidden : ℕ → Bool
is_hidden n = n == 2 || is_secret n

-- whether the text has a star where a description puts them
abbrev pub is_masked : ℕ → List ℕ → Bool
is_masked n text = if is_hidden n then list_any (λ b. b == 42) text else false

-- why a text is no hexadecimal digits
abbrev pub hex_trouble : FromHexError → Trouble
hex_trouble hex.OddLength = troubles.OddHex
hex_trouble e = troubles.BadHex

-- the bytes that were decoded, or why there are none
abbrev pub decoded : Result (List ℕ) FromHexError → Result (List ℕ) Trouble
decoded (Ok bytes) = Ok bytes
decoded (Err e) = Err (hex_trouble e)

-- the bytes that a text of the class stands for
abbrev pub bytes_of : CharClass → List ℕ → Result (List ℕ) Trouble
bytes_of classes.B text = decoded (decode_of text)
bytes_of class text = Ok text

-- why a row refuses a value
abbrev pub field_trouble : FieldFault → Trouble
field_trouble fields.NotInClass = troubles.NotInClass
field_trouble fields.PadEnd = troubles.PadEnd
field_trouble e = troubles.WrongLength

-- the value, if the row doesn't refuse it
abbrev pub unless_refused : List ℕ → Option FieldFault → Result (List ℕ) Trouble
unless_refused v None = Ok v
unless_refused v (Some e) = Err (field_trouble e)

-- the value, if the row takes it
abbrev pub fitting : FieldSpec → Result (List ℕ) Trouble → Result (List ℕ) Trouble
fitting s (Ok v) = unless_refused v (refusal s v)
fitting s (Err t) = Err t

-- the value that a text stands for as element n, or why it is refused: no row, a mask, no bytes, or what the row says
abbrev pub value_of : Option FieldSpec → ℕ → List ℕ → Result (List ℕ) Trouble
value_of None n text = Err troubles.NoRow
value_of (Some s) n text =
    if is_masked n text then Err troubles.Masked else fitting s (bytes_of s.class text)

-- a function stopped with what was refused, or for want of memory
abbrev pub IsStop : Stop → Result (List ℕ) Trouble → Type 0
IsStop (stops.Refused t) read = read ≡ Err t
IsStop stops.Memory read = Unit {0}
