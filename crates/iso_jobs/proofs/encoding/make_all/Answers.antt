use Rattle.std.proofs.Common.{◌≡◌, ◌∙◌, List, ℕ, Bool, sym, ap, subst}
use Rattle.std.specs.Prelude.{IfSome}
use Rattle.iso_input.specs.Window.{Ahead}
use Rattle.iso_jobs.specs.Encoding.{Cuts, target_of}
use Rattle.iso_jobs.specs.Frames.{Progress}
use Rattle.iso_jobs.specs.Making.{IsText}
use Rattle.iso_jobs.proofs.Streams.{held_same}
use Rattle.iso_jobs.proofs.TextStreams.{all_made, made_took, made_waits, made_written}
use Rattle.iso_jobs.proofs.encoding.make_all.Goals as goal
use Rattle.iso_jobs.proofs.encoding.make_all.Goals.{then-not-branch+in_ok-write+else-held-gt-MOST_TEXT+in_ok-read_more+else-not-branch-2, else-not-branch}

pub returns-then-not-branch-2 : goal.returns-then-not-branch-2
returns-then-not-branch-2 g c =
    let target = target_of c.args.making in
    let before = g.R.Read.remaining c.args.input in
    let old = g.O.Write.contents c.args.output.now in
    let mid = g.O.Write.contents c.loop.output in
    let now = c.step.new.window in
    let here : Progress = record { window = c.loop.window; pages = c.loop.pages } in
    let next : Progress = record { window = now; pages = c.step.new.pages } in
    let later = c.read_more.new.window in
    let Step : Bool → Type 0 = λ cut. Cuts target here next cut in
    let step = subst Step c.if-not-branch.true c.in_ok-step.ensures in
    let waits = made_waits target before old mid here next c.loop.invariant step.0 in
    let so = made_written target before now.ahead later.ahead old mid (g.O.Write.contents c.write.new.output) c.step.new.pages c.write.new.self
    waits c.read_more.ensures.kept c.in_ok-write.ensures.written c.in_ok-write.ensures.empty c.write.ensures.same in
    let same : later.held ≡ c.loop.window.held =
    held_same now.held later.held c.in_ok-read_more.field-0 c.in_ok-read_more.ensures.grown c.if-not-branch-2.true
    ∙ ap (λ (x : Ahead). x.held) step.0.window in
    let rest = c.held-rest.result.now in
    let held : rest ≡ later.held = c.held-rest.ensures.held in
    let is : IsText rest = subst IsText (sym (held ∙ same)) step.1 in
    let last = subst (λ (l : List ℕ). IfSome later.ahead (λ left. left ≡ l)) (sym held) (c.in_ok-read_more.ensures.end c.if-not-branch-2.true) in
    all_made target before later.ahead old (g.O.Write.contents c.write.new.output) _ c.write.new.self rest c.close.result so last is
    c.close.ensures

pub loop-preserved : goal.loop-preserved
loop-preserved g c =
    let target = target_of c.args.making in
    let before = g.R.Read.remaining c.args.input in
    let old = g.O.Write.contents c.args.output.now in
    let mid = g.O.Write.contents c.loop.output in
    let now = c.step.new.window in
    let here : Progress = record { window = c.loop.window; pages = c.loop.pages } in
    let next : Progress = record { window = now; pages = c.step.new.pages } in
    let Step : Bool → Type 0 = λ cut. Cuts target here next cut in
    elim c.if-not-branch.branch [
      | then-not-branch+in_ok-write+else-held-gt-MOST_TEXT+in_ok-read_more+else-not-branch-2 b ↦
          let step = subst Step b.if-not-branch.true c.in_ok-step.ensures in
          let waits = made_waits target before old mid here next c.loop.invariant step.0 in
          rw (b.window-is, b.output-is, b.pages-is)
          (made_written target before now.ahead b.read_more.new.window.ahead old mid (g.O.Write.contents b.write.new.output)
          c.step.new.pages b.write.new.self waits b.read_more.ensures.kept b.in_ok-write.ensures.written b.in_ok-write.ensures.empty
          b.write.ensures.same)
      | else-not-branch b ↦
          let step = subst Step b.if-not-branch.false c.in_ok-step.ensures in
          rw (b.window-is, b.output-is, b.pages-is)
          (made_took target before old mid here next step.0 c.loop.invariant step.1 step.2 step.3)
    ]
