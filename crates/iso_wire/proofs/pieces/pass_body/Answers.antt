use Rattle.std.proofs.Common.{Err, Ok, sym}
use Rattle.iso_wire.specs.declared.judging.ResumePoint.TheVariants as points
use Rattle.iso_wire.proofs.WalkBodies.{body_passes, body_fails}
use Rattle.iso_wire.proofs.Walks.{body_under_row}
use Rattle.iso_wire.proofs.pieces.pass_body.Goals as goal

pub body_end-requires-clause-good : goal.body_end-requires-clause-good
body_end-requires-clause-good c = c.row.ensures.good c.args.n c.in-Some.row.now (sym c.in-Some.ensures.row)

pub returns-in-Ok : goal.returns-in-Ok
returns-in-Ok c =
    let t = c.args.table.now in
    let b = c.args.bytes.now in
    let s = c.in-Some.row.now in
    let row = sym c.in-Some.ensures.row in
    body_under_row t b c.args.n c.args.count s c.args.at (Ok (points.Elements c.args.rest c.in-Ok.end)) row (body_passes c.parts.ensures t b c.args.n c.args.count s c.args.rest c.args.at c.in-Ok.end c.row.ensures.good c.are_bytes.ensures row c.requires.reached (sym c.in-Ok.ensures.exact))

pub returns-in-Err : goal.returns-in-Err
returns-in-Err c =
    let t = c.args.table.now in
    let b = c.args.bytes.now in
    let s = c.in-Some.row.now in
    let row = sym c.in-Some.ensures.row in
    body_under_row t b c.args.n c.args.count s c.args.at (Err c.in-Err.fault) row (body_fails c.pieces.ensures t b c.args.n c.args.count s c.args.at c.in-Err.fault (sym c.in-Err.ensures.exact))
