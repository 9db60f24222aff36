-- How each way to stop is told.
use Rattle.std.specs.Prelude.{ℕ, List, [], ◌++◌, Option, Some, None, option_map, unwrap_or, codes}
use Rattle.std.specs.Fmt.{decimal}
use Rattle.iso_table.specs.FaultNames.{table_fault_name, table_fault_element, host_table_fault_name, host_table_fault_element}
use Rattle.iso_wire.specs.FaultNames.{unpack_cause_name, pack_fault_name, pack_fault_element}
use Rattle.iso_wire.specs.declared.fault.PackFault.{PackFault}
use Rattle.iso_wire.specs.declared.fault.PackFault.TheVariants as pack
use Rattle.iso_wire.specs.declared.fault.UnpackCause.{UnpackCause}
use Rattle.iso_wire.specs.declared.fault.UnpackCause.TheVariants as cause
use Rattle.iso_wire.specs.declared.fault.UnpackFault.{UnpackFault}
use Rattle.iso_table.specs.declared.fault.TableFault.{TableFault}
use Rattle.iso_table.specs.declared.fault.TableFault.TheVariants as table
use Rattle.iso_issuer.specs.FaultNames.{accounts_fault_name, accounts_fault_account}
use Rattle.iso_issuer.specs.declared.fault.AccountsFault.{AccountsFault}
use Rattle.iso_issuer.specs.declared.fault.AccountsFault.TheVariants as accounts
use Rattle.iso_host.specs.declared.fault.ServeFault.{ServeFault}
use Rattle.iso_host.specs.declared.fault.ServeFault.TheVariants as serving
use Rattle.iso_cli.specs.declared.stop.Stop.{Stop}
use Rattle.iso_cli.specs.declared.stop.Stop.TheVariants.{Words, File, Read, Write, Memory, TooManyTurns, InputTooLong, TrailingBytes, BadHeader, CutFrame, Table, Host, Accounts, Unpack, Pack}
use Rattle.iso_cli.specs.declared.source.SourceFault.{SourceFault}
use Rattle.iso_cli.specs.declared.source.SourceFault.TheVariants as source
use Rattle.iso_cli.specs.declared.streaming.InputFault.{InputFault}
use Rattle.iso_cli.specs.declared.streaming.InputFault.TheVariants as input
use Rattle.iso_cli.specs.declared.words.WordsFault.{WordsFault}
use Rattle.iso_cli.specs.declared.words.WordsFault.TheVariants as words

-- the status: 1 where an input was refused, 2 where the command line was, 3 where a device or memory failed
abbrev pub status_of : Stop → ℕ
status_of Words = 2
status_of File = 3
status_of Read = 3
status_of Write = 3
status_of Memory = 3
status_of TooManyTurns = 3
status_of InputTooLong = 1
status_of TrailingBytes = 1
status_of BadHeader = 1
status_of CutFrame = 1
status_of (Table fault) = 1
status_of (Host fault) = 1
status_of (Accounts fault) = 1
status_of (Unpack fault) = 1
status_of (Pack fault) = 1

-- the text of the fault line, where it names no fault of a table, of accounts, of an input or of a message
abbrev pub stop_text : Stop → Option (List ℕ)
stop_text Words = Some (codes "command line refused")
stop_text File = Some (codes "failed: File")
stop_text Read = Some (codes "failed: Read")
stop_text Write = Some (codes "failed: Write")
stop_text Memory = Some (codes "failed: Memory")
stop_text TooManyTurns = Some (codes "failed: TooManyTurns")
stop_text InputTooLong = Some (codes "refused: InputTooLong")
stop_text TrailingBytes = Some (codes "refused: TrailingBytes")
stop_text BadHeader = Some (codes "refused: BadHeader")
stop_text CutFrame = Some (codes "refused: CutFrame")
stop_text (Table fault) = None
stop_text (Host fault) = None
stop_text (Accounts fault) = None
stop_text (Unpack fault) = None
stop_text (Pack fault) = None

-- the fault line: the text, and one newline
abbrev pub stop_line : Stop → Option (List ℕ)
stop_line stop = option_map (λ text. text ++ codes "\n") (stop_text stop)

-- the end of a line, with the element that is named
abbrev pub element_end : Option ℕ → List ℕ
element_end None = codes "\n"
element_end (Some n) = codes " element " ++ (decimal n ++ codes "\n")

-- the line of a fault that names an element, or none
abbrev pub named_line : List ℕ → List ℕ → Option ℕ → List ℕ
named_line what name element =
    codes "refused: " ++ (what ++ (codes " " ++ (name ++ element_end element)))

-- the end of a line, with the account that is named, counted from 0
abbrev pub account_end : Option ℕ → List ℕ
account_end None = codes "\n"
account_end (Some i) = codes " " ++ (decimal i ++ codes "\n")

-- the line of what is wrong with accounts, and of the account that is named
abbrev pub accounts_line : AccountsFault → List ℕ
accounts_line fault = codes "refused: accounts "
    ++ (accounts_fault_name fault ++ account_end (accounts_fault_account fault))

-- the line of where bytes stop being a message: why, at which element, and at which offset
abbrev pub unpack_line : UnpackFault → List ℕ
unpack_line fault =
    codes "refused: unpack " ++ (unpack_cause_name fault.cause ++ (codes " element "
    ++ (decimal fault.element ++ (codes " at " ++ (decimal fault.at ++ codes "\n")))))

-- the line of a stop that names a fault of a table, of accounts, of an input or of a message
abbrev pub refusal_line : Stop → List ℕ
refusal_line (Table fault) =
    named_line (codes "table") (table_fault_name fault) (table_fault_element fault)
refusal_line (Host fault) =
    named_line (codes "host") (host_table_fault_name fault) (host_table_fault_element fault)
refusal_line (Pack fault) =
    named_line (codes "pack") (pack_fault_name fault) (pack_fault_element fault)
refusal_line (Accounts fault) = accounts_line fault
refusal_line (Unpack fault) = unpack_line fault
refusal_line stop = []

-- the fault line of a stop
abbrev pub line_of : Stop → List ℕ
line_of stop = unwrap_or (stop_line stop) (refusal_line stop)

-- the stop that a fault of an input is
abbrev pub stop_of_input : InputFault → Stop
stop_of_input input.Read = Read
stop_of_input input.TooLong = InputTooLong
stop_of_input input.TooManyTurns = TooManyTurns
stop_of_input input.Memory = Memory

-- the stop that a fault of a file is
abbrev pub stop_of_source : SourceFault → Stop
stop_of_source source.File = File
stop_of_source source.Memory = Memory

-- the stop that an end of serving is
abbrev pub stop_of_serving : ServeFault → Stop
stop_of_serving serving.Read = Read
stop_of_serving serving.Write = Write
stop_of_serving serving.BadHeader = BadHeader
stop_of_serving serving.CutFrame = CutFrame
stop_of_serving serving.Memory = Memory
stop_of_serving serving.TooManyTurns = TooManyTurns

-- the stop that a fault of the words is
abbrev pub stop_of_words : WordsFault → Stop
stop_of_words words.Refused = Words
stop_of_words words.Memory = Memory

-- the stops that faults of accounts, of a table, of reading and of writing are: want of memory is one stop for all
abbrev pub stop_of_accounts : AccountsFault → Stop
stop_of_accounts accounts.Memory = Memory
stop_of_accounts fault = Accounts fault

-- the stop where there is no table
abbrev pub stop_of_table : TableFault → Stop
stop_of_table table.Memory = Memory
stop_of_table fault = Table fault

-- the stop where bytes aren't read as a message, for this cause
abbrev pub stop_of_unpack : UnpackFault → UnpackCause → Stop
stop_of_unpack fault cause.Memory = Memory
stop_of_unpack fault why = Unpack fault

-- the stop where a message isn't written
abbrev pub stop_of_pack : PackFault → Stop
stop_of_pack pack.Memory = Memory
stop_of_pack fault = Pack fault
