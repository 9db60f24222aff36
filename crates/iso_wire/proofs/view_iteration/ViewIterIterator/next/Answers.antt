use Rattle.std.proofs.Common.{subst, arith}
use Rattle.iso_wire.proofs.Wires.{Ascends, left_ascend}
use Rattle.iso_wire.proofs.view_iteration.ViewIterIterator.next.Goals as goal

pub bounds-self-inside-n : goal.bounds-self-inside-n
bounds-self-inside-n c =
    let ascends = subst (Ascends 2) c.in_ok-n.ensures (left_ascend c.self.inside.numbers) in
    omega (arith, ascends.1)

pub bounds-self-inside-n-2 : goal.bounds-self-inside-n-2
bounds-self-inside-n-2 c =
    let ascends = subst (Ascends 2) c.in_ok-n.ensures (left_ascend c.self.inside.numbers) in
    omega (arith, ascends.1)
