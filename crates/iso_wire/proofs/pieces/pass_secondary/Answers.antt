use Rattle.std.proofs.Common.{◌≡◌, ◌+◌, sym, rules, arith}
use Rattle.iso_parts.specs.Bitmap.{map_size}
use Rattle.iso_parts.specs.Mti.{mti_size}
use Rattle.iso_wire.proofs.WalkFronts.{second_map_passes, secondary_fails}
use Rattle.iso_wire.proofs.pieces.pass_secondary.Goals as goal

pub returns-in-Ok : goal.returns-in-Ok
returns-in-Ok c =
    let t = c.args.table.now in
    let reached = c.requires.reached in
    let start : c.mti_size-start.result ≡ mti_size t.mti = search rules in
    let size : c.size-size.result ≡ map_size t.bitmap = search rules in
    let read = rw (c.split_at-2.ensures.back, c.split_at.ensures.back, start, size) at c.in-Ok.ensures.exact in
    second_map_passes t c.args.bytes.now reached.0 c.args.first c.in-Ok.second c.from_words.result (c.mti_size-start.result + (c.size-size.result + c.size-size.result)) reached.1 reached.2 reached.3 (sym read) c.from_words.ensures.members (omega (arith, start, size))

pub returns-in-Err : goal.returns-in-Err
returns-in-Err c =
    let t = c.args.table.now in
    let start : c.mti_size-start.result ≡ mti_size t.mti = search rules in
    let size : c.size-size.result ≡ map_size t.bitmap = search rules in
    let read = rw (c.split_at-2.ensures.back, c.split_at.ensures.back, start, size) at c.in-Err.ensures.exact in
    secondary_fails c.bitmaps.ensures t c.args.bytes.now c.in-Err.fault c.are_bytes.ensures (sym read)
