use Rattle.std.proofs.Common.{◌<◌, length, ap, sym, ◌∙◌, arith}
use Rattle.iso_review.specs.Changes.{put_row}
use Rattle.iso_review.proofs.Rows.{put_at, put_end}
use Rattle.iso_review.proofs.change.put_row.Goals as goal

pub returns-then-index-row-clause-ok : goal.returns-then-index-row-clause-ok
returns-then-index-row-clause-ok c =
    let so_far = c.loop-at.invariant in
    let lt : c.loop-at.at < length c.loop-at.rows.items = omega (arith, ap length so_far.same) in
    put_at c.args.row c.args.row c.index.result.now c.loop-at.rows.items c.loop-at.at lt so_far.others c.index.ensures c.if-index-row.true ∙ ap (put_row c.args.row) so_far.same

pub returns-clause-ok : goal.returns-clause-ok
returns-clause-ok c =
    let so_far = c.loop-at.invariant in
    c.in_ok-push.ensures.items
    ∙ sym (put_end c.args.row c.args.row c.loop-at.rows.items (λ k h. so_far.others k (omega (arith, ap length so_far.same))))
    ∙ ap (put_row c.args.row) so_far.same
