use Rattle.std.proofs.Common.{take}
use Rattle.std.specs.Fmt.{HasWritten, IsPlainFormatter}
use Rattle.std.specs.List.{flat_map}
use Rattle.iso_wire.specs.Masking.{readable_byte}
use Rattle.iso_wire.proofs.masking.write_text.Given as goal

-- the bytes so far are written
abbrev pub invariant-loop-b : goal.invariant-loop-b
invariant-loop-b g l =
    IsPlainFormatter l.initial.f → HasWritten g.W.Write.write_str_gives l.initial.f (flat_map readable_byte (take l.b-index l.bytes)) l.f
