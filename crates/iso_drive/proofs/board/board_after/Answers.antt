use Rattle.std.proofs.Common.{◌≡◌, ap, sym, subst, take}
use Rattle.std.specs.Prelude.{Err, IsErrOf}
use Rattle.std.proofs.lemmas.Result.{err_from_is_err_and}
use Rattle.iso_restarts.specs.declared.durable.Fault.TheVariants.{Damaged}
use Rattle.iso_restarts.specs.Diary.{party_after}
use Rattle.iso_drive.specs.Board.{IsBoard}
use Rattle.iso_drive.proofs.Notes.{slots-next, can-next}
use Rattle.iso_drive.proofs.board.board_after.Goals as goal

-- a fault is handed on
err_on : {T U E : Type 0} (a b : E) → IsErrOf {T = T} {E = E} (Err a) b → IsErrOf {T = U} {E = E} (Err a) b
err_on a b h = let same : a ≡ b = cc in ap Err same

pub returns-in_err-go_through-clause-damaged : goal.returns-in_err-go_through-clause-damaged
returns-in_err-go_through-clause-damaged c =
    let note = c.note-item.result in
    let i = c.loop-note.note-index in
    let p = err_from_is_err_and c.from_residual.result c.from_residual.ensures.1 in
    rw (p.1, p.2) (λ is id can. c.in_err-go_through.ensures.damaged (err_on c.in_err-go_through.field-0.0 Damaged is)
    (party_after id (take i c.args.notes.now)) c.loop-note.invariant.board.tabled (can-next c.notes.ensures.follow id c.args.notes.now i note c.loop-note-test.true c.note-item.is can))

pub loop-note-preserved : goal.loop-note-preserved
loop-note-preserved c =
    let note = c.note-item.result in
    let i = c.loop-note.note-index in
    record {
      board = subst (IsBoard c.go_through.new.board) (sym (slots-next c.notes.ensures.follow c.args.notes.now i note c.loop-note-test.true c.note-item.is)) (c.in_ok-go_through.ensures.board _ c.loop-note.invariant.board);
      time = c.in_ok-go_through.ensures.time c.loop-note.invariant.time;
    }
