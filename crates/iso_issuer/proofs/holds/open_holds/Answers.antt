use Rattle.std.proofs.Common.{sym}
use Rattle.iso_issuer.proofs.Holding.{open-some, open-none}
use Rattle.iso_issuer.proofs.holds.open_holds.Goals as goal
use Rattle.iso_issuer.proofs.holds.open_holds.Goals.{in-Some+in_ok-push, in_default}

pub loop-place-preserved : goal.loop-place-preserved
loop-place-preserved c = elim c.match-open_hold.branch [
  | in-Some+in_ok-push w ↦
      let hold = w.in-Some.hold in
      rw (w.holds-is, w.in_ok-push.ensures.items, c.loop-place.invariant) (sym (open-some c.args.journal.now c.args.pan c.loop-place.place c.at.result hold c.at.ensures w.in-Some.ensures))
  | in_default w ↦
      rw (w.holds-is, c.loop-place.invariant) (sym (open-none c.args.journal.now c.args.pan c.loop-place.place c.at.result c.at.ensures w.in_default.ensures))
]
