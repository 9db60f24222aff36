-- What is told of a message, and what is written for it.
use Rattle.std.specs.Prelude.{◌≡◌, ◌⊎◌, ℕ, Result, Ok, Err, Bool, true, if◌then◌else◌, List, [], ◌++◌, codes}
use Rattle.iso_table.specs.Layout.{Layout}
use Rattle.iso_wire.specs.Contents.{Contents}
use Rattle.iso_wire.specs.Spelling.{Spelling, Converts}
use Rattle.iso_wire.specs.declared.fault.PackFault.{PackFault}
use Rattle.iso_wire.specs.declared.fault.PackFault.TheVariants as faults
use Rattle.iso_names.specs.Own.{NetworkNames}
use Rattle.iso_explain.specs.NamedLines.{NamedDescription}
use Rattle.iso_json.specs.Written.{json_of}
use Rattle.iso_jobs.specs.Whole.{IsNoMessage}
use Rattle.iso_jobs.specs.Written.{exceeds, written}
use Rattle.iso_jobs.specs.declared.form.Form.{Form}
use Rattle.iso_jobs.specs.declared.refusal.Refusal.{Refusal}
use Rattle.iso_jobs.specs.declared.refusal.Refusal.TheVariants as refusals
use Rattle.iso_jobs.specs.declared.refusal.Trouble.TheVariants as troubles

-- what ends the lines of a message: in a stream an empty line
abbrev pub ending : Bool → List ℕ
ending is_framed = if is_framed then codes "\n" else []

-- how lines are told: with which names of elements, whether card data are shown, and whether an empty line ends them
pub record LineStyle : Type 0 where
  pub names : NetworkNames
  pub is_clear : Bool
  pub is_framed : Bool

-- the lines of the message that the bytes are, with the names of its elements
abbrev pub TellsLines : Layout → LineStyle → List ℕ → List ℕ → Type 0
TellsLines t style b text =
    (m : Contents) × (lines : List ℕ) × Spelling t m b
    × NamedDescription style.is_clear t style.names m lines
    × (text ≡ lines ++ ending style.is_framed)

-- the line of JSON of the message that the bytes are
abbrev pub TellsJson : Layout → Bool → List ℕ → List ℕ → Type 0
TellsJson t is_clear b text = (m : Contents) × Spelling t m b
    × (text ≡ json_of is_clear t m ++ codes "\n")

-- the table that a message is read by, and the one that it is written by
pub record Tables : Type 0 where
  pub from : Layout
  pub to : Layout

-- what was skipped, and the plain spelling of the message under the second table
abbrev pub Conversion : Tables → List ℕ → List ℕ → List ℕ → Type 0
Conversion tables front b body = (spelled : List ℕ) × Converts tables.from tables.to b spelled
    × (body ≡ front ++ spelled)

-- what was skipped and that spelling, as the output has them
abbrev pub TellsConverted : Tables → Form → List ℕ → List ℕ → List ℕ → Type 0
TellsConverted tables form front b text = (body : List ℕ) × Conversion tables front b body
    × (text ≡ written form body)

-- the message has no bytes under the table
abbrev pub HasNoSpelling : Layout → Contents → Type 0
HasNoSpelling t m = (b : List ℕ) → Spelling t m b → ⊥

-- the bytes are no message of the first table, or one that has no bytes under the second
abbrev pub HasNoConversion : Tables → List ℕ → Type 0
HasNoConversion tables b = IsNoMessage tables.from b
    ⊎ ((m : Contents) × Spelling tables.from m b × HasNoSpelling tables.to m)

-- there is no such message, or its frame can't count it
abbrev pub IsNotConverted : Tables → Form → List ℕ → List ℕ → Type 0
IsNotConverted tables form front b =
    HasNoConversion tables b
    ⊎ ((body : List ℕ) × Conversion tables front b body × (exceeds form.header body ≡ true))

-- want of memory, or what the second table says
abbrev pub refusal_of_pack : PackFault → Refusal
refusal_of_pack faults.Memory = refusals.Memory
refusal_of_pack e = refusals.Refused (troubles.Pack e)

-- a text was appended, unless memory ran out
abbrev pub Grows : List ℕ → List ℕ → Result (Unit {0}) Refusal → Type 0
Grows old new (Ok done) = (text : List ℕ) × (new ≡ old ++ text)
Grows old new (Err (refusals.Refused trouble)) = (text : List ℕ) × (new ≡ old ++ text)
Grows old new (Err refusals.Memory) = Unit {0}
