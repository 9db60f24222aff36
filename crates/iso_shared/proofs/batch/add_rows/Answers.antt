use Rattle.iso_shared.proofs.Batches.{rows_step, all_step}
use Rattle.iso_shared.proofs.batch.add_rows.Goals as goal

pub loop-row-preserved : goal.loop-row-preserved
loop-row-preserved c =
    let l = c.loop-row in
    let rows = c.args.rows.now in
    record {
      bytes =
          rows_step c.args.out.now.items l.out.items c.extend_from_slice.new.self.items c.row_bytes.result rows l.row-index c.row-item.result c.loop-row-test.true c.row-item.is
          c.row_bytes.ensures.bytes l.invariant.bytes c.in_ok-extend_from_slice.ensures.items;
      rows = all_step rows l.row-index c.row-item.result c.loop-row-test.true c.row-item.is c.row_bytes.ensures.row l.invariant.rows;
    }
