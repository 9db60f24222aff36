use Rattle.iso_diary.proofs.Pieces.{one_noted, one_read}
use Rattle.iso_diary.proofs.scanning.scan_piece.Goals as goal

pub loop-place-preserved : goal.loop-place-preserved
loop-place-preserved c =
    let l = c.loop-place in
    let r = c.in_ok-scan_record.ensures in
    let good = c.if-not-branch.false in
    let piece = c.args.piece.now in
    let bytes = c.record_at-record.result in
    record {
      notes = one_noted c.slots.ensures c.args.notes.now.items l.notes.items c.scan_record.new.notes.items l.place piece bytes c.record_at-record.ensures l.invariant.notes (r.more good);
      read = one_read c.slots.ensures c.args.first l.place piece bytes c.record_at-record.ensures l.invariant.read (r.read good);
    }
