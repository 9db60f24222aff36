use Rattle.std.proofs.Common.{◌≡◌, ℕ, List, ◌≤◌, ◌<◌, subst, length, drop, take, ◌+◌, ◌-◌, arith, length-drop, ap, ◌∙◌, add_assoc}
use Rattle.std.proofs.KnownBytes.{Appends-kept}
use Rattle.std.proofs.lemmas.List.{take_all}
use Rattle.std.specs.declared.option.Option.{Option}
use Rattle.std.specs.Io.KnownBytes.{Appends, Keeps}
use Rattle.iso_host.specs.Counts.{Counts}
use Rattle.iso_host.proofs.StreamLemmas.{rest_from, appends_more, spends_more, turns_more}
use Rattle.iso_host.proofs.serving.write_whole.Goals as goal

-- all was written, and no more came behind it
whole : (a b c : Option (List ℕ)) (bs : List ℕ) (at : ℕ) → Appends a b (take at bs) → length bs ≤ at → Keeps b c → Appends a c bs
whole a b c bs at written all kept = subst (λ (l : List ℕ). Appends a c l) (take_all at bs all) (Appends-kept a b c (take at bs) written kept)

pub loop-at-preserved : goal.loop-at-preserved
loop-at-preserved g c =
    let at = c.loop-at.at in
    let bytes = c.args.bytes.now in
    let size : length (take (length bytes - at) (drop at bytes)) ≡ length bytes - at = ap length (rest_from at bytes) ∙ length-drop at bytes in
    let some : 0 < c.in-Ok.count = c.in-Ok.ensures.some (omega (arith, size)) in
    let turn : 0 < c.loop-at.left = omega arith in
    record {
      in_range = omega (arith, c.in-Ok.ensures.bound, size);
      written = appends_more _ _ _ _ _ _ c.loop-at.invariant.written c.in-Ok.ensures.bytes;
      turns = turns_more _ _ _ _ _ _ c.loop-at.invariant.spent c.loop-at.invariant.turns turn c.in-Ok.ensures.counts;
      waits = ap (λ (k : Counts). k.unflushed) c.in-Ok.ensures.counts ∙ ap (λ (n : ℕ). n + c.in-Ok.count) c.loop-at.invariant.waits ∙ add_assoc _ _ _;
      spent = spends_more _ _ _ _ _ _ c.loop-at.invariant.spent turn some c.in-Ok.ensures.counts;
    }

pub returns-in_default-clause-written : goal.returns-in_default-clause-written
returns-in_default-clause-written g c =
    let so = c.loop-at.invariant in
    record {
      count = c.loop-at.at;
      within = so.in_range;
      appends = Appends-kept (g.W.Outlet.contents c.args.writer.now) (g.W.Outlet.contents c.loop-at.writer) (g.W.Outlet.contents c.write.new.self) (take c.loop-at.at c.args.bytes.now) so.written c.in_default.ensures.bytes;
      waits = ap (λ (k : Counts). k.unflushed) c.in_default.ensures.counts ∙ so.waits;
    }

pub returns-in-Err-clause-written : goal.returns-in-Err-clause-written
returns-in-Err-clause-written g c =
    let so = c.loop-at.invariant in
    record {
      count = c.loop-at.at;
      within = so.in_range;
      appends = Appends-kept (g.W.Outlet.contents c.args.writer.now) (g.W.Outlet.contents c.loop-at.writer) (g.W.Outlet.contents c.flush.new.self) (take c.loop-at.at c.args.bytes.now) so.written c.in-Err.ensures.bytes;
      waits = ap (λ (k : Counts). k.unflushed) c.in-Err.ensures.counts ∙ so.waits;
    }

pub returns-then-left-eq0-clause-written : goal.returns-then-left-eq0-clause-written
returns-then-left-eq0-clause-written g c =
    let so = c.loop-at.invariant in
    record { count = c.loop-at.at; within = so.in_range; appends = so.written; waits = so.waits }

pub returns-in-Ok-flush-clause-written : goal.returns-in-Ok-flush-clause-written
returns-in-Ok-flush-clause-written g c = whole (g.W.Outlet.contents c.args.writer.now) (g.W.Outlet.contents c.loop-at.writer) (g.W.Outlet.contents c.flush.new.self) c.args.bytes.now c.loop-at.at c.loop-at.invariant.written c.loop-at-test.false c.in-Ok-flush.ensures.bytes

pub returns-in_default-clause-spent : goal.returns-in_default-clause-spent
returns-in_default-clause-spent g c =
    let failures = ap (λ (k : Counts). k.failures) c.in_default.ensures.counts in
    omega (arith, failures, c.loop-at.invariant.spent.failures)

pub returns-in-Err-clause-spent : goal.returns-in-Err-clause-spent
returns-in-Err-clause-spent g c =
    let failures = ap (λ (k : Counts). k.failures) c.in-Err.ensures.counts in
    omega (arith, failures, c.loop-at.invariant.spent.failures)

pub returns-then-left-eq0-clause-spent : goal.returns-then-left-eq0-clause-spent
returns-then-left-eq0-clause-spent g c = (c.loop-at.invariant.spent, c.if-left-eq0.true)

pub returns-in-Ok-flush-clause-spent : goal.returns-in-Ok-flush-clause-spent
returns-in-Ok-flush-clause-spent g c =
    let spent = c.loop-at.invariant.spent in
    let calls = ap (λ (k : Counts). k.calls) c.in-Ok-flush.ensures.counts in
    let moved = ap (λ (k : Counts). k.moved) c.in-Ok-flush.ensures.counts in
    let failures = ap (λ (k : Counts). k.failures) c.in-Ok-flush.ensures.counts in
    record { fewer = spent.fewer; moved = omega (arith, calls, moved, spent.moved); failures = failures ∙ spent.failures }

pub returns-in-Ok-flush-clause-flushed : goal.returns-in-Ok-flush-clause-flushed
returns-in-Ok-flush-clause-flushed g c = ap (λ (k : Counts). k.unflushed) c.in-Ok-flush.ensures.counts
