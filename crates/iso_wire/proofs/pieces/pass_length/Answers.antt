use Rattle.std.proofs.Common.{◌+◌, Err, Ok, sym, subst, ap}
use Rattle.iso_parts.specs.Spec.{IsGood}
use Rattle.iso_wire.specs.declared.fault.UnpackFault.{UnpackFault}
use Rattle.iso_wire.specs.declared.judging.ResumePoint.TheVariants as points
use Rattle.iso_wire.specs.Walking.{Passes}
use Rattle.iso_wire.specs.Stops.{count}
use Rattle.iso_wire.proofs.WalkFronts.{length_passes, length_lacks, length_fails}
use Rattle.iso_wire.proofs.Walks.{length_under_row}
use Rattle.iso_wire.proofs.pieces.pass_length.Goals as goal

pub returns-in-Ok-Some : goal.returns-in-Ok-Some
returns-in-Ok-Some c =
    let t = c.args.table.now in
    let b = c.args.bytes.now in
    let s = c.in-Some.row.now in
    let at = c.args.at in
    let end = at + c.prefix_size-front.result in
    let row = sym c.in-Some.ensures.row in
    let read = rw (c.in-Ok-Some.field-0-is, c.split_at.ensures.back) at c.in-Ok-Some.ensures.exact in
    let few = rw c.in-Ok-Some.field-0-is at c.in-Ok-Some.ensures.few in
    length_under_row t b c.args.n s at (Ok (points.Body c.args.n c.in-Ok-Some.count c.args.rest end)) row (length_passes t b c.args.n c.in-Ok-Some.count s c.args.rest at end c.requires.reached row (sym read) few (ap (λ k. at + k) c.prefix_size-front.ensures.size))

pub returns-in-Ok-None : goal.returns-in-Ok-None
returns-in-Ok-None c =
    let t = c.args.table.now in
    let b = c.args.bytes.now in
    let s = c.in-Some.row.now in
    let at = c.args.at in
    let row = sym c.in-Some.ensures.row in
    let read = rw (c.in-Ok-None.field-0-is, c.split_at.ensures.back) at c.in-Ok-None.ensures.exact in
    length_under_row t b c.args.n s at (Err c.stop-in-Ok-None.result) row (subst (λ (e : UnpackFault). Passes t b (count c.args.n s) at (Err e)) (sym c.stop-in-Ok-None.ensures) (length_lacks t b c.args.n s at (sym read)))

pub returns-in-Err : goal.returns-in-Err
returns-in-Err c =
    let t = c.args.table.now in
    let b = c.args.bytes.now in
    let s = c.in-Some.row.now in
    let at = c.args.at in
    let row = sym c.in-Some.ensures.row in
    let read = rw c.split_at.ensures.back at c.in-Err.ensures.exact in
    let good : IsGood s = c.row.ensures.good c.args.n s row in
    length_under_row t b c.args.n s at (Err c.stop-in-Err.result) row (subst (λ (e : UnpackFault). Passes t b (count c.args.n s) at (Err e)) (sym c.stop-in-Err.ensures) (length_fails c.pieces.ensures t b c.args.n s at c.in-Err.fault good c.are_bytes.ensures (sym read)))
