-- Inputs that are worked on.
use Rattle.std.specs.Prelude.{◌≡◌, ◌⊎◌, ℕ, ◌<◌, Bool, true, false, if◌then◌else◌, List, [], length, Option, Some, None, Ok, Err}
use Rattle.std.specs.Io.KnownBytes.{Appends}
use Rattle.iso_wire.specs.declared.header.Header.{Header}
use Rattle.iso_input.specs.Dump.{hex_bytes}
use Rattle.iso_input.specs.declared.fault.HexFault.{HexFault}
use Rattle.iso_jobs.specs.Outputs.{Output}
use Rattle.iso_jobs.specs.Work.{Task, Tells, WorksOn}
use Rattle.iso_jobs.specs.declared.form.Form.{Form}
use Rattle.iso_jobs.specs.declared.opening.Opened.{Opened}
use Rattle.iso_jobs.specs.declared.opening.Opened.TheVariants as opened

-- ---- what an input has

-- the most bytes, or characters of hexadecimal text, of an input that is read whole
abbrev pub most_of : Form → ℕ
most_of form = if form.is_hex then 16777216 else 1048576

-- the bytes of an input, or those that the digits of hexadecimal text stand for
abbrev pub HasBytesBy : Bool → List ℕ → List ℕ → Type 0
HasBytesBy true all bytes = hex_bytes all ≡ Ok bytes
HasBytesBy false all bytes = bytes ≡ all

-- the bytes that the input has, or that its digits stand for
abbrev pub HasBytes : Form → List ℕ → List ℕ → Type 0
HasBytes form all bytes = HasBytesBy form.is_hex all bytes

-- the text stands for no bytes
abbrev pub IsNoHex : List ℕ → Type 0
IsNoHex text = (e : HexFault) × (hex_bytes text ≡ Err e)

-- the input is too long to be read whole, or its digits stand for no bytes
abbrev pub IsNotRead : Form → List ℕ → Type 0
IsNotRead form all = (most_of form < length all) ⊎ ((form.is_hex ≡ true) × IsNoHex all)

-- what was read of a text
abbrev pub IsDecoded : List ℕ → Opened → Type 0
IsDecoded text (opened.Bytes bytes) = hex_bytes text ≡ Ok bytes.items
IsDecoded text (opened.Refused trouble) = IsNoHex text

-- what was read of an input
abbrev pub Opens : Form → List ℕ → Opened → Type 0
Opens form all (opened.Bytes bytes) = HasBytes form all bytes.items
Opens form all (opened.Refused trouble) = IsNotRead form all

-- ---- what is done

-- the output grows by what is told of the one message that bytes are, or of each body of their frames
abbrev pub WorksOnBy : Option Header → Task → List ℕ → Output → Bool → Type 0
WorksOnBy None task bytes output good = (text : List ℕ) × Tells task bytes (good, text)
    × Appends output.old output.new text
WorksOnBy (Some h) task bytes output good = WorksOn task h bytes output good

-- the same by the header that the form has, or has not
abbrev pub WorksOnBytes : Task → List ℕ → Output → Bool → Type 0
WorksOnBytes task bytes output good = WorksOnBy task.form.header task bytes output good

-- so it does for the bytes that the input has; or nothing is written, since it isn't read
abbrev pub WorksOnInput : Task → List ℕ → Output → Bool → Type 0
WorksOnInput task all output good =
    ((bytes : List ℕ) × HasBytes task.form all bytes × WorksOnBytes task bytes output good)
    ⊎ (IsNotRead task.form all × (good ≡ false) × Appends output.old output.new [])
