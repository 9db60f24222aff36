use Rattle.std.proofs.Common.{◌≡◌, sym, rules}
use Rattle.iso_parts.specs.Mti.{mti_size}
use Rattle.iso_wire.proofs.WalkFronts.{primary_passes, primary_fails}
use Rattle.iso_wire.proofs.pieces.pass_primary.Goals as goal

pub returns-in-Ok : goal.returns-in-Ok
returns-in-Ok c =
    let t = c.args.table.now in
    let start : c.mti_size-start.result ≡ mti_size t.mti = search rules in
    let read = rw (c.split_at.ensures.back, start) at c.in-Ok.ensures.exact in
    let behind = rw start at c.behind_primary.ensures in
    primary_passes t c.args.bytes.now c.requires.reached.0 c.in-Ok.first c.behind_primary.result c.requires.reached.1 (sym read) behind

pub returns-in-Err : goal.returns-in-Err
returns-in-Err c =
    let t = c.args.table.now in
    let start : c.mti_size-start.result ≡ mti_size t.mti = search rules in
    let read = rw (c.split_at.ensures.back, start) at c.in-Err.ensures.exact in
    primary_fails c.bitmaps.ensures t c.args.bytes.now c.in-Err.fault c.are_bytes.ensures (sym read)
