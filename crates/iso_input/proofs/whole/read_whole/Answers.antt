use Rattle.std.proofs.Common.{ℕ, ◌<◌, List, length, IfSome, Some, None, ap, arith, length-append}
use Rattle.std.specs.Prelude.{Option}
use Rattle.std.specs.Io.KnownBytes.{Consumes}
use Rattle.iso_input.proofs.whole.read_whole.Goals as goal

-- what begins with more bytes has more
more_begin : (before rest : Option (List ℕ)) (bytes : List ℕ) (most : ℕ) → Consumes before rest bytes → most < length bytes → IfSome before (λ all. most < length all)
more_begin None rest bytes most h more = tt
more_begin (Some all) None bytes most h more = absurd h
more_begin (Some all) (Some behind) bytes most h more = omega (arith, ap length h, length-append bytes behind)

pub returns-clause-too_long : goal.returns-clause-too_long
returns-clause-too_long g c =
    let held = c.loop-held.held in
    let more : c.args.most < length _ = omega (arith, c.loop-held-test.false, c.len.ensures) in
    λ _. more_begin _ _ _ c.args.most c.loop-held.invariant more
