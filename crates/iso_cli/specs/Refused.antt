-- Why an input is refused: which stop comes with status 1, the first one in the order in which the command reads.
use Rattle.std.specs.Prelude.{◌≡◌, ◌≢◌, ◌⊎◌, ℕ, ◌<◌, nat_lt, bytes_eq, false, if◌then◌else◌, List, [], ◌∷◌, length, IsTrue, Bool, Option, Some, None, IfSome, option_map, Result, Ok, Err, codes}
use Rattle.iso_parts.specs.declared.digits.Digits.TheVariants.{Ascii}
use Rattle.iso_table.specs.Layout.{Layout}
use Rattle.iso_table.specs.Document.{IsNotJson, IsDocumentFault}
use Rattle.iso_table.specs.Edition87.{IsEdition87}
use Rattle.iso_table.specs.declared.fault.TableFault.TheVariants as table
use Rattle.iso_wire.specs.Contents.{Contents}
use Rattle.iso_wire.specs.Reading.{message_at}
use Rattle.iso_wire.specs.Refusal.{message_refusal}
use Rattle.iso_wire.specs.declared.fault.UnpackFault.{UnpackFault}
use Rattle.iso_order.specs.declared.verdict.Verdict.{Verdict}
use Rattle.iso_order.specs.declared.verdict.Verdict.TheVariants.{Order, Reply, Silent}
use Rattle.iso_order.specs.Outcome.{code_alone}
use Rattle.iso_order.specs.Verdict.{verdict}
use Rattle.iso_order.specs.Response.{response}
use Rattle.std.specs.Io.KnownBytes.{Appends}
use Rattle.iso_cli.specs.Stop.{status_of, line_of}
use Rattle.iso_cli.specs.Tables.{IsNamed}
use Rattle.iso_cli.specs.Words.{AsksShow, is_name}
use Rattle.iso_cli.specs.declared.stop.Stop.{Stop}
use Rattle.iso_cli.specs.declared.stop.Stop.TheVariants.{InputTooLong, TrailingBytes, Table, Unpack, Pack}

-- ---- what is read

-- the file has more bytes than one may have; or its text is no JSON, or stands for no good table, and this is the first fault
abbrev pub HoldsNone : List ℕ → Stop → Type 0
HoldsNone held InputTooLong = 1048576 < length held
HoldsNone held (Table e) = (e ≡ table.NotJson → IsNotJson held)
    × (e ≢ table.NotJson → IsDocumentFault held e)
HoldsNone held stop = ⊥

-- the word names no built-in table, and the document that it names holds none
pub record NamesNone (file : List ℕ → Option (List ℕ)) (word : List ℕ) (stop : Stop) : Type 0 where
  pub no_ascii : bytes_eq word (codes "ascii87") ≡ false
  pub no_bcd : bytes_eq word (codes "bcd87") ≡ false
  pub holds : IfSome (file word) (λ held. HoldsNone held stop)

-- the input has more bytes than one may have
pub record IsTooLong (input : Option (List ℕ)) (stop : Stop) : Type 0 where
  pub stop_is : stop ≡ InputTooLong
  pub long : IfSome input (λ all. 1048576 < length all)

-- ---- what is made of it

-- bytes that aren't read as a message
abbrev pub read_stop : {A : Type 0} → Result A UnpackFault → Option Stop
read_stop (Ok x) = None
read_stop (Err e) = Some (Unpack e)

-- why what was read isn't written under a table
abbrev pub rewrite_stop : Layout → List ℕ → Result (Contents × ℕ) UnpackFault → Option Stop
rewrite_stop t all (Err e) = Some (Unpack e)
rewrite_stop t all (Ok x) =
    if nat_lt x.1 (length all) then Some TrailingBytes else option_map Pack (message_refusal t x.0)

-- why the response that a message decides isn't written
abbrev pub reply_stop : Layout → Contents → Verdict → Option Stop
reply_stop t m (Reply code) = option_map Pack (message_refusal t (response m (code_alone code)))
reply_stop t m (Order o) = None
reply_stop t m Silent = None

-- why what was read isn't echoed: it is no message, or its response isn't written
abbrev pub echo_stop : Layout → Result (Contents × ℕ) UnpackFault → Option Stop
echo_stop t (Err e) = Some (Unpack e)
echo_stop t (Ok x) = reply_stop t x.0 (verdict x.0)

-- ---- the four commands that read a whole input, or a table alone

-- the echo: the input is too long, or isn't echoed
abbrev pub EchoStops : Option (List ℕ) → Stop → Type 0
EchoStops input stop =
    IsTooLong input stop ⊎ ((t : Layout) × IsEdition87 Ascii t
    × IfSome input (λ all. echo_stop t (message_at t all) ≡ Some stop))

-- `show`: the table isn't named; else the input is too long, or begins with no message
abbrev pub ShowStops : (List ℕ → Option (List ℕ)) → List ℕ → Option (List ℕ) → Stop → Type 0
ShowStops file table input stop =
    NamesNone file table stop ⊎ ((t : Layout) × IsNamed file table t
    × (IsTooLong input stop ⊎ IfSome input (λ all. read_stop (message_at t all) ≡ Some stop)))

-- `convert`: the first table isn't named, or the second; else the input is too long, or isn't written under the second
abbrev pub ConvertStops : (List ℕ → Option (List ℕ)) → List ℕ → List ℕ → Option (List ℕ) → Stop
    → Type 0
ConvertStops file from to input stop =
    NamesNone file from stop ⊎ ((f : Layout) × IsNamed file from f
    × (NamesNone file to stop ⊎ ((t : Layout) × IsNamed file to t × (IsTooLong input stop
    ⊎ IfSome input (λ all. rewrite_stop t all (message_at f all) ≡ Some stop)))))

-- ---- the stops of the command that the words ask for

-- if the words ask for `check`, it stops so
abbrev pub CheckStopsIfAsked : List (List ℕ) → (List ℕ → Option (List ℕ)) → Stop → Type 0
CheckStopsIfAsked words file stop = (table : List ℕ) → IsTrue (is_name table)
    → words ≡ codes "check" ∷ table ∷ [] → NamesNone file table stop

-- if the words ask for `show`, it stops so
abbrev pub ShowStopsIfAsked : List (List ℕ) → (List ℕ → Option (List ℕ)) → Option (List ℕ) → Stop
    → Type 0
ShowStopsIfAsked words file input stop =
    (table : List ℕ) (is_clear : Bool) → IsTrue (is_name table) → AsksShow words table is_clear
    → ShowStops file table input stop

-- if the words ask for `convert`, it stops so
abbrev pub ConvertStopsIfAsked : List (List ℕ) → (List ℕ → Option (List ℕ)) → Option (List ℕ) → Stop
    → Type 0
ConvertStopsIfAsked words file input stop = (from to : List ℕ)
    → words ≡ codes "convert" ∷ from ∷ to ∷ [] → ConvertStops file from to input stop

-- what was told is the line of a stop with status 1, one of that command, `run` aside
pub record IsRefused (words : List (List ℕ)) (file : List ℕ → Option (List ℕ))
    (input held written : Option (List ℕ)) : Type 0 where
  pub stop : Stop
  pub status : status_of stop ≡ 1
  pub line : Appends held written (line_of stop)
  pub echo : words ≡ [] → EchoStops input stop
  pub check : CheckStopsIfAsked words file stop
  pub show : ShowStopsIfAsked words file input stop
  pub convert : ConvertStopsIfAsked words file input stop
