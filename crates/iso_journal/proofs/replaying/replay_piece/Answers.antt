use Rattle.std.proofs.Common.{◌∙◌}
use Rattle.iso_journal.proofs.Pieces.{one_entered, one_written}
use Rattle.iso_journal.proofs.replaying.replay_piece.Goals as goal

pub loop-place-preserved : goal.loop-place-preserved
loop-place-preserved c =
    let l = c.loop-place in
    let r = c.in_ok-replay_record.ensures in
    let good = c.if-not-branch.false in
    let old = c.args.issuer.now in
    let piece = c.args.piece.now in
    let bytes = c.record_at-record.result in
    record {
      accounts = r.accounts good ∙ l.invariant.accounts;
      limit = r.limit good ∙ l.invariant.limit;
      orders = one_entered c.slots.ensures old l.issuer l.place piece bytes c.record_at-record.ensures l.invariant.accounts l.invariant.limit l.invariant.orders c.replay_record.new.issuer.orders (r.entered good);
      written = one_written c.slots.ensures old l.issuer l.place piece bytes c.record_at-record.ensures l.invariant.accounts l.invariant.limit l.invariant.orders l.invariant.written (r.written good);
    }
