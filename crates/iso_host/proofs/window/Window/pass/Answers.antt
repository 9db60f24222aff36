use Rattle.std.proofs.Common.{◌≤◌, ◌+◌, ◌-◌, length, drop, ap, ◌∙◌, arith, length-take}
use Rattle.iso_host.proofs.WindowLemmas.{passed}
use Rattle.iso_host.proofs.window.Window.pass.Goals as goal

pub returns : goal.returns
returns c =
    let w = c.self.inside in
    let size = ap length c.self.view_is in
    let room : w.start + c.args.count ≤ w.end = omega (arith, c.requires, size, c.self.invariant, length-take (w.end - w.start) (drop w.start w.block)) in
    passed w.block w.start w.end c.args.count room ∙ ap (drop c.args.count) c.self.view_is
