use Rattle.std.proofs.Common.{◌≡◌, ◌∙◌, ap, sym, subst}
use Rattle.std.specs.Prelude.{Err, IsErrOf}
use Rattle.std.proofs.lemmas.Result.{err_from_is_err_and}
use Rattle.iso_acquirer.specs.Acquirer.{Party}
use Rattle.iso_restarts.specs.declared.durable.Fault.TheVariants.{Damaged}
use Rattle.iso_restarts.specs.Replayed.{party_noted, CanNote}
use Rattle.iso_restarts.proofs.Replayed.{party-next, can-at}
use Rattle.iso_restarts.proofs.replaying.replay.Goals as goal

-- a fault is handed on
err_on : {T U E : Type 0} (a b : E) → IsErrOf {T = T} {E = E} (Err a) b → IsErrOf {T = U} {E = E} (Err a) b
err_on a b h = let same : a ≡ b = cc in ap Err same

pub returns-in_err-go_through-clause-damaged : goal.returns-in_err-go_through-clause-damaged
returns-in_err-go_through-clause-damaged c =
    let note = c.note-item.result in
    let p = err_from_is_err_and c.from_residual.result c.from_residual.ensures.1 in
    rw (p.1, p.2) (λ is can. c.in_err-go_through.ensures.damaged (err_on c.in_err-go_through.field-0.0 Damaged is)
    (subst (λ (a : Party). CanNote a note) (sym c.loop-note.invariant) (can-at c.args.id c.args.notes.now c.loop-note.note-index note c.loop-note-test.true c.note-item.is can)))

pub loop-note-preserved : goal.loop-note-preserved
loop-note-preserved c =
    let note = c.note-item.result in
    let i = c.loop-note.note-index in
    c.in_ok-go_through.ensures.after ∙ ap (λ (p : Party). party_noted p note) c.loop-note.invariant
    ∙ sym (party-next c.args.id c.args.notes.now i note c.loop-note-test.true c.note-item.is)
