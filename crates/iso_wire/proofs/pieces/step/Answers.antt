use Rattle.std.proofs.Common.{◌≤◌, ◌+◌, length, subst, ap, sym}
use Rattle.iso_wire.proofs.WalkPlaces.{reached_stands}
use Rattle.iso_wire.proofs.Walks.{steps}
use Rattle.iso_wire.proofs.pieces.step.Goals as goal

pub returns-in_err-span : goal.returns-in_err-span
returns-in_err-span c =
    let t = c.args.table.now in
    let b = c.args.bytes.now in
    let stands = reached_stands c.parts.ensures c.bitmaps.ensures c.pieces.ensures t b c.args.point c.good_rows.ensures c.are_bytes.ensures c.requires in
    rw c.from_residual.ensures (c.in_err-span.ensures, stands.0, stands.1)

pub split_at-requires : goal.split_at-requires
split_at-requires c =
    let t = c.args.table.now in
    let b = c.args.bytes.now in
    let stands = reached_stands c.parts.ensures c.bitmaps.ensures c.pieces.ensures t b c.args.point c.good_rows.ensures c.are_bytes.ensures c.requires in
    subst (λ k. k ≤ length b) (sym c.in_ok-span.ensures.2.start) stands.0

pub returns : goal.returns
returns c =
    let t = c.args.table.now in
    let b = c.args.bytes.now in
    let span = c.in_ok-span.span in
    let spans = c.in_ok-span.ensures in
    let end = rw c.split_at.ensures.back at c.min.ensures in
    rw c.cause_of.ensures (steps c.parts.ensures c.bitmaps.ensures c.pieces.ensures t b c.args.point spans.0 span (span.start + c.min.result) c.pass-after.result c.good_rows.ensures c.are_bytes.ensures c.requires spans.1 spans.2 (ap (λ k. span.start + k) end) c.pass-after.ensures)
