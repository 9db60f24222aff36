use Rattle.std.proofs.Common.{◌≡◌, ◌∙◌, Bool, Some, None, refl, ap, arith}
use Rattle.std.proofs.KnownBytes.{Consumes-kept}
use Rattle.iso_host.specs.Beginning.{held_of}
use Rattle.iso_host.specs.Stepping.{handled_at, taken_as}
use Rattle.iso_host.proofs.NextLemmas.{taken_at, taken_frame, taken_on}
use Rattle.iso_host.proofs.next_frame.next_frame.Goals as goal

pub returns-in-Ok-take_window-clause-bytes : goal.returns-in-Ok-take_window-clause-bytes
returns-in-Ok-take_window-clause-bytes g c =
    let so = c.pieces.invariant in
    let e = c.in-Ok-take_window.ensures in
    let line = c.pieces.line in
    let new = c.take_window.new.line in
    let kept = held_of new.begun new.gathering.part in
    let held = held_of line.begun line.gathering.part in
    let taken = taken_as c.in-Ok-take_window.step new.told in
    let ended : taken.handled ≡ Some new.told = ap (λ (b : Bool). handled_at b new.told) c.if-step.true in
    let took = taken_at c.args.table.now c.args.header held kept c.pieces.issuer c.args.issuer.now c.take_window.new.issuer
    c.fill.new.window line.out.items c.args.line.now.out.items new.out.items taken e.took so.issuer so.out in
    taken_frame c.args.table.now c.args.header _ _ c.fill.new.window c.fill.new.window new.window held kept c.args.issuer.now c.take_window.new.issuer
    c.args.line.now.out.items new.out.items taken new.told
    (Consumes-kept _ _ _ _ so.part c.in-Ok.ensures.kept) refl e.passed took ended

pub pieces-preserved : goal.pieces-preserved
pieces-preserved g c =
    let so = c.pieces.invariant in
    let e = c.in-Ok-take_window.ensures in
    let fill = c.in-Ok.ensures in
    let line = c.pieces.line in
    let new = c.take_window.new.line in
    let taken = taken_as c.in-Ok-take_window.step new.told in
    let goes_on : taken.handled ≡ None = ap (λ (b : Bool). handled_at b new.told) c.if-step.false in
    let on = taken_on c.args.table.now c.args.header _ _ c.fill.new.window c.fill.new.window new.window (held_of line.begun line.gathering.part) (held_of new.begun new.gathering.part) c.pieces.issuer c.take_window.new.issuer
    line.out.items new.out.items taken (Consumes-kept _ _ _ _ so.part fill.kept) refl e.passed e.took goes_on in
    record {
      part = on.0;
      begun = c.take_window.ensures.begun;
      needs = on.4;
      same = c.take_window.ensures.same;
      issuer = on.1 ∙ so.issuer;
      out = on.2 ∙ so.out;
      turns = omega (arith, so.turns, fill.turns);
      reads = record {
        spends = record {
          fewer = omega (arith, so.reads.spends.fewer, fill.spent.spends.fewer);
          moved = omega (arith, so.reads.spends.moved, fill.spent.spends.moved);
          failures = fill.spent.spends.failures ∙ so.reads.spends.failures;
        };
        falls = omega (arith, so.reads.falls, fill.spent.falls, on.3);
      };
    }
