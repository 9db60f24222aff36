use Rattle.std.proofs.Common.{drop, List, ℕ, ap, sym, subst, ◌∙◌}
use Rattle.iso_parts.specs.Bitmap.{contains}
use Rattle.iso_parts.specs.Numbers.{members}
use Rattle.iso_wire.specs.Elements.{has}
use Rattle.iso_wire.specs.Runs.{run_in, views_with, AwaitsWith}
use Rattle.iso_wire.proofs.ElementLaws.{numbers_read}
use Rattle.iso_wire.proofs.Loop.{is_done}
use Rattle.iso_wire.proofs.Numbered.{numbered_members}
use Rattle.iso_wire.proofs.RunLaws.{run_awaits, run_read, run_views}
use Rattle.iso_wire.proofs.unpacking.read_elements.Goals as goal

pub loop-n-preserved : goal.loop-n-preserved
loop-n-preserved c =
    let l = c.loop-n in
    let b : List ℕ = c.args.bytes.now in
    let step = c.in_ok-begun.ensures.exact in
    let run = run_in b l.from l.at in
    let after = run_in b c.in_ok-begun.begun c.in_ok-begun.end in
    let ns = members c.take_first.new.self in
    let old = l.elements in
    let new = c.append_element.new.elements in
    let awaits = subst (λ (k : List ℕ). AwaitsWith old run k) c.in-Some.ensures l.invariant.awaits in
    record {
      read = run_read c.args.table.now.rows old new b (members l.rest) ns c.in-Some.n l.at c.in_ok-begun.end run after step.0 _ c.in-Some.ensures step.1 step.2 awaits step.3 l.invariant.read;
      order = c.in_ok-begun.ensures.room.0;
      room = c.in_ok-begun.ensures.room.1;
      numbers = step.3.numbers ∙ l.invariant.numbers;
      awaits = run_awaits old new c.in-Some.n run after ns step.0.0 awaits step.3;
    }

pub returns-clause-numbered : goal.returns-clause-numbered
returns-clause-numbered c =
    let l = c.loop-n in
    let rows = c.args.table.now.rows in
    let numbers = c.args.numbers in
    let b : List ℕ = c.args.bytes.now in
    let run = run_in b l.from l.at in
    let es = views_with l.elements run in
    let kept = c.in_ok-copy_run.ensures.kept in
    let total = is_done rows es (members l.rest) l.at (drop l.at b) _ c.in_default.ensures.0 l.invariant.read in
    let numbered = numbered_members numbers es c.requires.elements (numbers_read rows (members numbers) c.args.start (drop c.args.start b) es l.at total) in
    let whole = run_views l.elements c.copy_run.new.elements run kept c.in_ok-copy_run.ensures.ok in
    λ k. ap (λ s. contains s k) (kept ∙ l.invariant.numbers) ∙ numbered k ∙ ap (λ vs. has vs k) (sym whole)
