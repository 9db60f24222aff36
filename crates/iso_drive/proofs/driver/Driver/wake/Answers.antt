use Rattle.std.proofs.Common.{◌≡◌, ◌≤◌, ◌<◌, ◌+◌, ℕ, refl, arith, ap, sym, ◌∙◌, subst, length}
use Rattle.std.specs.Prelude.{max}
use Rattle.std.proofs.lemmas.List.Sums.{count_by-le-length, length-filter}
use Rattle.std.proofs.lemmas.Result.{err_from_is_err_and}
use Rattle.iso_restarts.specs.Diary.{MayLeave}
use Rattle.iso_restarts.specs.Durable.{diary_of}
use Rattle.iso_drive.specs.declared.driver.Driver.{Driver}
use Rattle.iso_drive.specs.Driving.{Driving, wakes_first, wakes}
use Rattle.iso_waits.specs.Waits.{is_due, due_by}
use Rattle.iso_drive.proofs.Driven.{driving-moment}
use Rattle.iso_drive.proofs.Woken.{wakes-next, wakes-due}
use Rattle.iso_drive.proofs.driver.Driver.wake.Goals as goal

pub loop-woken-preserved : goal.loop-woken-preserved
loop-woken-preserved g c = λ is.
    let old = c.args.self.now in
    let w = old.board.waiting.items in
    let d : Driving = record { diary = diary_of g.L.NoteLog.synced g.L.NoteLog.pending old.acquirer; waiting = w; patience = old.patience; clock = c.max-self.result } in
    let inv = c.loop-woken.invariant is in
    let few : c.loop-woken.woken < length w = omega (arith, c.loop-woken-test.true, c.due_by-count.ensures, count_by-le-length (is_due c.max-self.result) w) in
    (c.in_ok-wake_first.ensures.driving inv.0, c.in_ok-wake_first.ensures.wakes inv.0 ∙ ap (wakes_first 1) inv.1 ∙ wakes-next c.loop-woken.woken d few)

pub returns-in_err-wake_first-clause-partly : goal.returns-in_err-wake_first-clause-partly
returns-in_err-wake_first-clause-partly g c =
    let old = c.args.self.now in
    let w = old.board.waiting.items in
    let clock : c.max-self.result ≡ max old.clock c.args.now = omega (arith, c.max-self.ensures) in
    let init : Driver g.row.L.Denot = record { acquirer = old.acquirer; id = old.id; board = old.board; patience = old.patience; clock = c.max-self.result } in
    let few : c.loop-woken.woken ≤ length (due_by (max old.clock c.args.now) w) =
    subst (λ n. c.loop-woken.woken ≤ length (due_by n w)) clock
    (omega (arith, c.loop-woken-test.true, c.due_by-count.ensures, length-filter (is_due c.max-self.result) w)) in
    let p = err_from_is_err_and c.from_residual.result c.from_residual.ensures.1 in
    rw (p.1, p.2) (λ other is.
    let inv = c.loop-woken.invariant (driving-moment c.who_waits.ensures.in_time g.L.NoteLog.is_ready g.L.NoteLog.synced g.L.NoteLog.pending old init is refl refl refl refl (omega (arith, c.max-self.ensures))) in
    let stays = c.in_err-wake_first.ensures.unchanged other in (
      stays.driving inv.0,
      (
        c.loop-woken.woken,
        few,
        stays.same ∙ inv.1
            ∙ ap (λ (n : ℕ). wakes_first c.loop-woken.woken (record { diary = diary_of g.L.NoteLog.synced g.L.NoteLog.pending old.acquirer; waiting = w; patience = old.patience; clock = n })) clock,
      ),
    ))

pub returns-in_err-wake_first-clause-crash : goal.returns-in_err-wake_first-clause-crash
returns-in_err-wake_first-clause-crash g c = λ is kept left.
    let old = c.args.self.now in
    let w = old.board.waiting.items in
    let d : Driving = record { diary = diary_of g.L.NoteLog.synced g.L.NoteLog.pending old.acquirer; waiting = w; patience = old.patience; clock = c.max-self.result } in
    let init : Driver g.row.L.Denot = record { acquirer = old.acquirer; id = old.id; board = old.board; patience = old.patience; clock = c.max-self.result } in
    let inv = c.loop-woken.invariant (driving-moment c.who_waits.ensures.in_time g.L.NoteLog.is_ready g.L.NoteLog.synced g.L.NoteLog.pending old init is refl refl refl refl (omega (arith, c.max-self.ensures))) in
    let few : c.loop-woken.woken < length w = omega (arith, c.loop-woken-test.true, c.due_by-count.ensures, count_by-le-length (is_due c.max-self.result) w) in (
      c.loop-woken.woken + 1,
      subst (λ (x : Driving). MayLeave x.diary kept) (ap (wakes_first 1) inv.1 ∙ wakes-next c.loop-woken.woken d few) (c.wake_first.ensures.crash inv.0 kept left),
    )

pub returns-clause-count : goal.returns-clause-count
returns-clause-count g c =
    let old = c.args.self.now in
    let w = old.board.waiting.items in
    let clock : c.max-self.result ≡ max old.clock c.args.now = omega (arith, c.max-self.ensures) in
    c.due_by-count.ensures ∙ sym (length-filter (is_due c.max-self.result) w) ∙ ap (λ (n : ℕ). length (due_by n w)) clock

pub returns-clause-driving : goal.returns-clause-driving
returns-clause-driving g c = λ is.
    let old = c.args.self.now in
    let init : Driver g.row.L.Denot = record { acquirer = old.acquirer; id = old.id; board = old.board; patience = old.patience; clock = c.max-self.result } in
    (c.loop-woken.invariant (driving-moment c.who_waits.ensures.in_time g.L.NoteLog.is_ready g.L.NoteLog.synced g.L.NoteLog.pending old init is refl refl refl refl (omega (arith, c.max-self.ensures)))).0

pub returns-clause-wakes : goal.returns-clause-wakes
returns-clause-wakes g c = λ is.
    let old = c.args.self.now in
    let w = old.board.waiting.items in
    let clock : c.max-self.result ≡ max old.clock c.args.now = omega (arith, c.max-self.ensures) in
    let d : Driving = record { diary = diary_of g.L.NoteLog.synced g.L.NoteLog.pending old.acquirer; waiting = w; patience = old.patience; clock = c.max-self.result } in
    let init : Driver g.row.L.Denot = record { acquirer = old.acquirer; id = old.id; board = old.board; patience = old.patience; clock = c.max-self.result } in
    let inv = c.loop-woken.invariant (driving-moment c.who_waits.ensures.in_time g.L.NoteLog.is_ready g.L.NoteLog.synced g.L.NoteLog.pending old init is refl refl refl refl (omega (arith, c.max-self.ensures))) in
    let all : c.loop-woken.woken ≡ length (due_by c.max-self.result w) =
    omega (arith, c.loop-woken-test.false, c.loop-woken.auto.woken-end, c.due_by-count.ensures, length-filter (is_due c.max-self.result) w) in
    inv.1 ∙ ap (λ (n : ℕ). wakes_first n d) all ∙ wakes-due c.who_waits.ensures.in_time d is.in_time.in_order
    ∙ ap (λ (n : ℕ). wakes (record { diary = diary_of g.L.NoteLog.synced g.L.NoteLog.pending old.acquirer; waiting = w; patience = old.patience; clock = n })) clock

pub returns-clause-crash : goal.returns-clause-crash
returns-clause-crash g c = λ is kept left.
    let old = c.args.self.now in
    let init : Driver g.row.L.Denot = record { acquirer = old.acquirer; id = old.id; board = old.board; patience = old.patience; clock = c.max-self.result } in
    let inv = c.loop-woken.invariant (driving-moment c.who_waits.ensures.in_time g.L.NoteLog.is_ready g.L.NoteLog.synced g.L.NoteLog.pending old init is refl refl refl refl (omega (arith, c.max-self.ensures))) in (
      c.loop-woken.woken,
      subst (λ (x : Driving). MayLeave x.diary kept) inv.1 (g.met.L.NoteLog.leaves_front c.loop-woken.self.acquirer.log inv.0.consistent.ready kept left),
    )
