use Rattle.std.proofs.Common.{◌≡◌, ℕ, ◌+◌, not, vec_len, refl, ap, sym, ◌∙◌, arith}
use Rattle.iso_host.specs.Counts.{Counts}
use Rattle.iso_cli.proofs.StreamingLemmas.{gave_more, read_len, read_long, read_more}
use Rattle.iso_cli.proofs.streaming.read_all.Goals as goal

pub loop-preserved : goal.loop-preserved
loop-preserved g c =
    let kept = c.loop.invariant in
    let read = c.in-Ok.ensures in
    let went = c.is_err.ensures.negation ∙ ap not c.if-is_err.false in
    let len = read_len _ _ _ _ c.extend_from_slice.ensures.len went in
    let more : vec_len c.extend_from_slice.new.self ≡ vec_len c.loop.bytes + c.in-Ok.count = len ∙ ap (λ (n : ℕ). vec_len c.loop.bytes + n) (sym read.bound.1) in
    let calls = ap (λ (x : Counts). x.calls) read.counts in
    record {
      consumed = read_more _ _ _ _ _ _ _ kept.consumed read.bytes.0 c.extend_from_slice.ensures.items went;
      bound = omega (arith, more, kept.bound, c.if-count-len.false, c.len.ensures);
      each = omega (arith, more, kept.each, c.if-count-eq0.false);
      gave = gave_more _ _ _ _ _ _ kept.gave read.counts more;
      calls = omega (arith, calls, kept.calls);
    }

pub returns-then-count-len : goal.returns-then-count-len
returns-then-count-len g c =
    let kept = c.loop.invariant in
    let read = c.in-Ok.ensures in
    let gave = gave_more _ _ _ _ _ (vec_len c.loop.bytes + c.in-Ok.count) kept.gave read.counts refl in
    record {
      bytes = tt;
      end = tt;
      bound = tt;
      too_long = λ is. read_long _ _ _ _ _ kept.consumed read.bytes.0 (omega (arith, read.bound.1, c.loop.bytes.ok, c.if-count-len.true, c.len.ensures));
      cause = (gave.failures, omega (arith, gave.moved, c.if-count-len.true, c.len.ensures));
      reads = omega (arith, ap (λ (x : Counts). x.calls) read.counts, kept.calls, c.loop-test.true);
    }
