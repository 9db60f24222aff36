-- What `Debug` writes: of a message what a bystander may read, and of other bytes their count alone.
use Rattle.std.specs.Prelude.{ℕ, ◌-◌, List, ◌++◌, length, take, drop, replicate, Option, Some, None, codes}
use Rattle.std.specs.Fmt.{decimal}
use Rattle.std.specs.List.{flat_map}
use Rattle.iso_parts.specs.Digits.{four_digits_of}
use Rattle.iso_parts.specs.declared.digits.Digits.TheVariants.{Ascii}
use Rattle.iso_wire.specs.Contents.{Contents}
use Rattle.iso_wire.specs.FaultNames.{unpack_cause_name}
use Rattle.iso_wire.specs.Masking.{shown_front, shown_end, readable_byte}
use Rattle.iso_wire.specs.Viewing.{ViewContents}
use Rattle.iso_wire.specs.declared.fault.UnpackCause.{UnpackCause}
use Rattle.iso_wire.specs.declared.fault.UnpackCause.TheVariants.{UnknownElement}
use Rattle.iso_wire.specs.declared.fault.UnpackFault.{UnpackFault}
use Rattle.iso_wire.specs.declared.framing.Framed.{Framed}
use Rattle.iso_wire.specs.declared.framing.Framed.TheVariants as framed

-- what a bystander may read of an element's value, with a star for each byte that is hidden
abbrev pub masked_value : ℕ → List ℕ → List ℕ
masked_value n value =
    let front : ℕ = shown_front n (length value) in
    let end : ℕ = shown_end n (length value) in
    flat_map readable_byte (take front value) ++ (replicate (length value - front - end) 42
    ++ flat_map readable_byte (drop (length value - end) value))

-- an element: its number, and what is shown of its value
abbrev pub debug_element : (ℕ × List ℕ) → List ℕ
debug_element e = codes ", " ++ (decimal e.0 ++ (codes ": " ++ masked_value e.0 e.1))

-- a message: its type, and its elements
abbrev pub debug_message : Contents → List ℕ
debug_message m = codes "Message { mti: "
    ++ (four_digits_of Ascii m.mti ++ (flat_map debug_element m.elements ++ codes " }"))

-- a message that lies in the caller's bytes: its type, and how many bytes it takes
abbrev pub debug_view : ViewContents → List ℕ
debug_view v = codes "View { mti: "
    ++ (four_digits_of Ascii v.mti ++ (codes ", used: " ++ (decimal v.used ++ codes " }")))

-- a frame: how many bytes its body has, and how many it takes itself
abbrev pub debug_framed : Framed → List ℕ
debug_framed (framed.Got body used) = codes "Got { body: "
    ++ (decimal (length body.now) ++ (codes " bytes, used: " ++ (decimal used ++ codes " }")))
debug_framed framed.More = codes "More"

-- what is wrong with a piece: its name, and the element that has no row
abbrev pub debug_cause : UnpackCause → List ℕ
debug_cause (UnknownElement n) = codes "UnknownElement(" ++ (decimal n ++ codes ")")
debug_cause cause = unpack_cause_name cause

-- where a message stopped: what is wrong, at which element and offset
abbrev pub debug_stop : Option UnpackFault → List ℕ
debug_stop None = codes "None"
debug_stop (Some e) = debug_cause e.cause
    ++ (codes " at element " ++ (decimal e.element ++ (codes ", offset " ++ decimal e.at)))

-- an unpacker: how many bytes it holds, and where the message stopped
abbrev pub debug_unpacker : ℕ → Option UnpackFault → List ℕ
debug_unpacker held stopped = codes "Unpacker { held: " ++ decimal held ++ codes ", stopped: "
    ++ debug_stop stopped ++ codes " }"
