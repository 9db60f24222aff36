-- Messages that are made from texts: a line of JSON, or field lines up to an empty one.
use Rattle.std.specs.Prelude.{◌≡◌, ◌⊎◌, ◌≢◌, ℕ, ◌+◌, ◌-◌, ◌<◌, ◌≤◌, ◌==◌, ◌&&◌, ◌||◌, Bool, true, false, if◌then◌else◌, List, [], ◌∷◌, ◌++◌, length, take, get_or, Option, Some, None, Result, Ok, Err}
use Rattle.std.specs.List.{list_all}
use Rattle.std.specs.Io.KnownBytes.{Appends}
use Rattle.iso_json.specs.declared.complaint.Refusal as json
use Rattle.iso_json.specs.declared.complaint.Refusal.TheVariants as jsons
use Rattle.iso_json.specs.RoundTrip.{IsClearJson}
use Rattle.iso_json.specs.Said.{IsMessage}
use Rattle.iso_table.specs.Layout.{Layout}
use Rattle.iso_wire.specs.Contents.{Contents}
use Rattle.iso_wire.specs.Spelling.{PlainSpelling}
use Rattle.iso_jobs.specs.Outputs.{Output, Text}
use Rattle.iso_jobs.specs.Written.{exceeds, written}
use Rattle.iso_jobs.specs.declared.form.Form.{Form}
use Rattle.iso_jobs.specs.declared.making.MakeRefusal.{MakeRefusal}
use Rattle.iso_jobs.specs.declared.making.MakeRefusal.TheVariants as refusals

-- ---- texts

-- blanks and ends of lines
abbrev pub is_white : ℕ → Bool
is_white b = b == 32 || b == 9 || b == 13 || b == 10

-- the text says nothing
abbrev pub is_blank : List ℕ → Bool
is_blank text = list_all is_white text

-- behind blanks stands a brace: the text is JSON
abbrev pub is_json : List ℕ → Bool
is_json [] = false
is_json (b ∷ bs) = b == 123 || (is_white b && is_json bs)

-- the text without the end of its line
abbrev pub line_of : List ℕ → List ℕ
line_of text = if get_or text (length text - 1) 0 == 10 then take (length text - 1) text else text

-- a line ends at most at the end of the text
abbrev pub IsLine : List ℕ → Type 0
IsLine text = (i : ℕ) → i + 1 < length text → get_or text i 0 ≢ 10

-- so many bytes are the first line; or all are a line without an end
abbrev pub IsLineSize : List ℕ → Option ℕ → Type 0
IsLineSize held (Some size) = (size ≤ length held) × IsLine (take size held)
IsLineSize held None = IsLine held

-- ---- one text

-- why nothing is made of a text of JSON: what is wrong with it, or want of memory
abbrev pub refusal_of_json : json.Refusal → MakeRefusal
refusal_of_json (jsons.Complaints cs) = refusals.Complaints cs
refusal_of_json jsons.Memory = refusals.Memory

-- the bytes are the plain spelling of the message that the text says
abbrev pub SpellsBy : Bool → Layout → List ℕ → List ℕ → Type 0
SpellsBy true t text b = (m : Contents) × IsMessage t (line_of text) m × PlainSpelling t m b
SpellsBy false t text b = (m : Contents) × PlainSpelling t m b

-- the same of any text, which is JSON or isn't
abbrev pub Spells : Layout → List ℕ → List ℕ → Type 0
Spells t text b = SpellsBy (is_json text) t text b

-- what is made of a text: that spelling, as the output has it
abbrev pub Makes : Layout → Form → List ℕ → List ℕ → Type 0
Makes t form text out = (b : List ℕ) × Spells t text b × (out ≡ written form b)

-- the plain spelling of a message is too long for its frame
abbrev pub IsTooLong : Layout → Form → Contents → Type 0
IsTooLong t form m = (b : List ℕ) × PlainSpelling t m b × (exceeds form.header b ≡ true)

-- the JSON in clear of a message is refused only where its frame can't count it
abbrev pub RefusesBy : Bool → Layout → Form → List ℕ → Type 0
RefusesBy true t form text = (m : Contents) → IsClearJson t m (line_of text) → IsTooLong t form m
RefusesBy false t form text = Unit {0}

-- the same of any text, which is JSON or isn't
abbrev pub Refuses : Layout → Form → List ℕ → Type 0
Refuses t form text = RefusesBy (is_json text) t form text

-- what came of a text; nothing is said where memory ran out
abbrev pub Outcome : Layout → Form → List ℕ → Text → Result (Unit {0}) MakeRefusal → Type 0
Outcome t form text body (Ok done) = (out : List ℕ) × Makes t form text out
    × (body.new ≡ body.old ++ out)
Outcome t form text body (Err refusals.Memory) = Unit {0}
Outcome t form text body (Err e) = Refuses t form text × (body.new ≡ body.old)

-- ---- all texts of an input

-- JSON stands on one line
abbrev pub IsText : List ℕ → Type 0
IsText text = is_json text ≡ true → IsLine text

-- what is made of a text of an input: whether it is good, and the bytes. Without frames a second message isn't.
abbrev pub MakesOne : Layout → Form → List ℕ → Bool × List ℕ → Type 0
MakesOne t form text (true, out) = ((is_blank text ≡ true) × (out ≡ [])) ⊎ Makes t form text out
MakesOne t form text (false, out) = ((form.header ≡ None) ⊎ Refuses t form text) × (out ≡ [])

-- what is made of each text, in their order
abbrev pub MakesEach : Layout → Form → List (List ℕ) → List (Bool × List ℕ) → Type 0
MakesEach t form [] made = made ≡ []
MakesEach t form (text ∷ texts) made =
    (first : Bool × List ℕ) × (later : List (Bool × List ℕ)) × IsText text
    × MakesOne t form text first × MakesEach t form texts later
    × (made ≡ first ∷ later)

-- the texts, one after another
abbrev pub joined : List (List ℕ) → List ℕ
joined [] = []
joined (text ∷ texts) = text ++ joined texts

-- what is written: what was made before the first text that is refused
abbrev pub output_of : List (Bool × List ℕ) → List ℕ
output_of [] = []
output_of (first ∷ later) = if first.0 then first.1 ++ output_of later else []

-- the output grows by the messages that the texts of the input say, up to the first that is refused; all is well where none is
pub record MakesAll (t : Layout) (form : Form) (all : List ℕ) (output : Output)
    (good : Bool) : Type 0 where
  pub texts : List (List ℕ)
  pub made : List (Bool × List ℕ)
  pub whole : all ≡ joined texts
  pub each : MakesEach t form texts made
  pub written : Appends output.old output.new (output_of made)
  pub all_good : good ≡ list_all (λ x. x.0) made
