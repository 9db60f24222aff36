use Rattle.std.proofs.Common.{◌≡◌, ℕ, List, [], ◌∷◌, ◌++◌, refl, arith, ap, ◌∙◌, length, ◌+◌}
use Rattle.iso_order.specs.declared.key.TxKey.{TxKey}
use Rattle.iso_acquirer.specs.Acquirer.{debit_of}
use Rattle.iso_restarts.specs.Diary.{in_memory}
use Rattle.iso_restarts.specs.Durable.{diary_of}
use Rattle.iso_waits.specs.declared.due.Due.{Due}
use Rattle.iso_drive.specs.declared.made.Made.{Made}
use Rattle.std.specs.Prelude.{Some}
use Rattle.iso_acquirer.specs.declared.state.State.TheVariants.{Waiting}
use Rattle.iso_drive.specs.declared.made.Role.TheVariants.{Payment}
use Rattle.iso_drive.proofs.Driven.{driving-begun}
use Rattle.iso_drive.proofs.Tabled.{made-begun}
use Rattle.iso_drive.proofs.driver.Driver.begin.Goals as goal

pub returns-then-len-clause-crash : goal.returns-then-len-clause-crash
returns-then-len-clause-crash g c = λ is kept left.
    let d = diary_of g.L.NoteLog.synced g.L.NoteLog.pending c.args.self.now.acquirer in
    c.notes.ensures.crash.begun d (debit_of (in_memory d) c.args.money.now.pan c.args.money.now.amount c.args.money.now.currency c.args.sent) kept
    (g.met.L.NoteLog.leaves_front c.args.self.now.acquirer.log is.consistent.ready kept left)

pub returns-in_err-make_room-clause-crash : goal.returns-in_err-make_room-clause-crash
returns-in_err-make_room-clause-crash g c = λ is kept left.
    let d = diary_of g.L.NoteLog.synced g.L.NoteLog.pending c.args.self.now.acquirer in
    c.notes.ensures.crash.begun d (debit_of (in_memory d) c.args.money.now.pan c.args.money.now.amount c.args.money.now.currency c.args.sent) kept
    (g.met.L.NoteLog.leaves_front c.args.self.now.acquirer.log is.consistent.ready kept left)

pub returns-clause-driving : goal.returns-clause-driving
returns-clause-driving g c = λ is.
    let old = c.args.self.now in
    let money = c.args.money.now in
    let d = diary_of g.L.NoteLog.synced g.L.NoteLog.pending old.acquirer in
    let o = debit_of (in_memory d) money.pan money.amount money.currency c.args.sent in
    let stan : c.in_ok-stan.stan ≡ length (in_memory d).slots + 1 = c.in_ok-stan.ensures.trace is.consistent in
    let key : TxKey = record { base = 200; stan = c.in_ok-stan.stan; sent = c.args.sent; acquirer = old.id } in
    let same : key ≡ o.key =
    ap (λ (n : ℕ). record { base = 200; stan = n; sent = c.args.sent; acquirer = old.id }) stan
    ∙ ap (λ (n : ℕ). record { base = 200; stan = length (in_memory d).slots + 1; sent = c.args.sent; acquirer = n }) is.own in
    let at = c.moment_after-at.result in
    driving-begun c.notes.ensures.follow c.who_waits.ensures.who c.who_waits.ensures.in_time g.L.NoteLog.is_ready g.L.NoteLog.synced g.L.NoteLog.pending old
    (record { acquirer = c.begin.new.self; id = old.id; board = c.begin-2.new.board; patience = old.patience; clock = c.max-self.result })
    is (c.in_ok-stan.ensures.consistent is.consistent) refl refl o at (c.in_ok-stan.ensures.begins is.consistent)
    (omega (arith, c.len.ensures, old.board.made.ok.0, c.if-len.false)) refl
    (c.begin-2.ensures.made ∙ ap (λ (l : List Made). l ++ record { key = key; debit = Some money; role = Payment (Waiting 1) } ∷ []) c.make_room.ensures.made
    ∙ ap (λ (m : Made). old.board.made.items ++ m ∷ []) (made-begun o key money same refl))
    (c.begin-2.ensures.waiting ∙ ap (λ (l : List Due). l ++ record { stan = c.in_ok-stan.stan; at = at } ∷ []) c.make_room.ensures.waiting
    ∙ ap (λ (n : ℕ). old.board.waiting.items ++ record { stan = n; at = at } ∷ []) stan)
    (omega (arith, c.max-self.ensures)) c.moment_after-at.ensures
