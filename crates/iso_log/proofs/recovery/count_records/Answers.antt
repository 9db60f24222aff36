use Rattle.std.proofs.Common.{◌∙◌, ◌+◌, ℕ, List, arith, subst}
use Rattle.iso_log.specs.Log.{IsFirst}
use Rattle.iso_log.proofs.Pieces.{whole_more, first_found}
use Rattle.iso_log.proofs.recovery.count_records.Goals as goal

pub returns-then-end-place-clause-first : goal.returns-then-end-place-clause-first
returns-then-end-place-clause-first g c = λ clean.
    let l = c.loop-place in
    let to = l.place + c.piece_len-count.result in
    let e = c.in_ok-end.ensures in
    first_found l.place to c.in_ok-end.end c.args.slots (g.D.Disk.seen c.args.disk.now) (l.invariant.whole (e.clean clean))
    (subst (λ (f : List ℕ). IsFirst l.place to c.in_ok-end.end f) l.invariant.seen (e.first clean)) c.if-end-place.true c.piece_len-count.ensures.within

pub loop-place-preserved : goal.loop-place-preserved
loop-place-preserved g c =
    let l = c.loop-place in
    let to = l.place + c.piece_len-count.result in
    let e = c.in_ok-end.ensures in
    record {
      usable = e.usable;
      clean = λ clean. l.invariant.clean (e.clean clean);
      seen = e.seen ∙ l.invariant.seen;
      crash = λ kept here. l.invariant.crash kept (e.crash kept here);
      whole = λ clean. whole_more l.place to c.in_ok-end.end (g.D.Disk.seen c.args.disk.now) (l.invariant.whole (e.clean clean))
          (subst (λ (f : List ℕ). IsFirst l.place to c.in_ok-end.end f) l.invariant.seen (e.first clean));
      most = omega (arith, e.within, c.piece_len-count.ensures.within);
    }
