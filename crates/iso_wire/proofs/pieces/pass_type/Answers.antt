use Rattle.iso_parts.specs.Mti.{mti_number}
use Rattle.iso_wire.proofs.WalkFronts.{type_passes, type_fails}
use Rattle.iso_wire.proofs.pieces.pass_type.Goals as goal

pub returns-in-Ok : goal.returns-in-Ok
returns-in-Ok c = type_passes c.args.table.now c.args.bytes.now (mti_number c.in-Ok.field-0) c.in-Ok.ensures.exact

pub returns-in-Err : goal.returns-in-Err
returns-in-Err c = type_fails c.args.table.now c.args.bytes.now c.in-Err.fault c.are_bytes.ensures (c.in-Err.ensures.exact.1 c.in-Err.ensures.no_memory)
