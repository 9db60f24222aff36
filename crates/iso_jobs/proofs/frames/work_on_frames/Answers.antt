use Rattle.std.proofs.Common.{◌≡◌, Bool, true, false, [], sym, subst}
use Rattle.std.specs.Prelude.{IfSome}
use Rattle.iso_input.specs.Window.{Ahead}
use Rattle.iso_wire.specs.Framing.{NeedsMore, NoFrame}
use Rattle.iso_jobs.specs.Frames.{Progress, Steps}
use Rattle.iso_jobs.specs.Work.{task_of}
use Rattle.iso_jobs.specs.declared.frames.Front.{Front}
use Rattle.iso_jobs.proofs.Streams.{all_told, so_far_waits, so_far_took, so_far_written, end_of, never_ends}
use Rattle.iso_jobs.proofs.frames.work_on_frames.Goals as goal
use Rattle.iso_jobs.proofs.frames.work_on_frames.Goals.{in-Frame, in-Part+in_ok-write-in-Part+in_ok-tell_progress-in-Part+in_ok-read_more-in-Part+else-not-branch}

pub returns-in-Bad : goal.returns-in-Bad
returns-in-Bad g c =
    let task = task_of c.args.job in
    let h = c.args.header in
    let before = g.R.Read.remaining c.args.input in
    let old = g.O.Write.contents c.args.output.now in
    let mid = g.O.Write.contents c.loop.output in
    let here : Progress = record { window = c.loop.window; pages = c.loop.pages } in
    let next : Progress = record { window = c.step.new.window; pages = c.step.new.pages } in
    let Step : Front → Type 0 = λ front. Steps task h here next front in
    let step = subst Step c.in-Bad.is c.in_ok-step.ensures in
    let so = so_far_waits task h before old mid here next c.loop.invariant step.0 in
    let facts = never_ends h c.loop.window c.step.new.window step.0.window step.1 in
    all_told task h before c.step.new.window.ahead old mid _ c.step.new.pages true c.end.result so facts c.end.ensures

pub returns-then-not-branch : goal.returns-then-not-branch
returns-then-not-branch g c =
    let task = task_of c.args.job in
    let h = c.args.header in
    let before = g.R.Read.remaining c.args.input in
    let old = g.O.Write.contents c.args.output.now in
    let mid = g.O.Write.contents c.loop.output in
    let now = c.step.new.window in
    let later = c.read_more.new.window in
    let here : Progress = record { window = c.loop.window; pages = c.loop.pages } in
    let next : Progress = record { window = c.step.new.window; pages = c.step.new.pages } in
    let Step : Front → Type 0 = λ front. Steps task h here next front in
    let step = subst Step c.in-Part.is c.in_ok-step.ensures in
    let waits = so_far_waits task h before old mid here next c.loop.invariant step.0 in
    let so = so_far_written task h before now.ahead later.ahead old mid (g.O.Write.contents c.write.new.output) c.step.new.pages c.write.new.self
    waits c.read_more.ensures.kept c.in_ok-write-in-Part.ensures.written c.in_ok-write-in-Part.ensures.empty c.write.ensures.same in
    let needs = subst (λ (x : Ahead). NeedsMore h x.held) (sym step.0.window) step.1 in
    let facts = end_of h now.held later.held later.ahead c.in_ok-read_more-in-Part.field-0 needs c.in_ok-read_more-in-Part.ensures.grown
    c.if-not-branch.true c.in_ok-read_more-in-Part.ensures.end in
    let Facts : Bool → Type 0 = λ some. IfSome later.ahead (λ left. NoFrame h left × (some ≡ false → left ≡ [])) in
    all_told task h before later.ahead old (g.O.Write.contents c.write.new.output) _ c.write.new.self _ c.end-then-not-branch.result so
    (subst Facts (sym c.cut.ensures) facts) c.end-then-not-branch.ensures

pub loop-preserved : goal.loop-preserved
loop-preserved g c =
    let task = task_of c.args.job in
    let h = c.args.header in
    let before = g.R.Read.remaining c.args.input in
    let old = g.O.Write.contents c.args.output.now in
    let mid = g.O.Write.contents c.loop.output in
    let now = c.step.new.window in
    let here : Progress = record { window = c.loop.window; pages = c.loop.pages } in
    let next : Progress = record { window = c.step.new.window; pages = c.step.new.pages } in
    let Step : Front → Type 0 = λ front. Steps task h here next front in
    elim c.match-branch-2.branch [
      | in-Frame b ↦
          let step = subst Step b.in-Frame.is c.in_ok-step.ensures in
          rw (b.window-is, b.output-is, b.pages-is)
          (so_far_took task h before old mid here next c.loop.invariant step)
      | in-Part+in_ok-write-in-Part+in_ok-tell_progress-in-Part+in_ok-read_more-in-Part+else-not-branch b ↦
          let step = subst Step b.in-Part.is c.in_ok-step.ensures in
          let waits = so_far_waits task h before old mid here next c.loop.invariant step.0 in
          rw (b.window-is, b.output-is, b.pages-is)
          (so_far_written task h before now.ahead b.read_more.new.window.ahead old mid (g.O.Write.contents b.write.new.output)
          c.step.new.pages b.write.new.self waits b.read_more.ensures.kept b.in_ok-write-in-Part.ensures.written
          b.in_ok-write-in-Part.ensures.empty b.write.ensures.same)
    ]
