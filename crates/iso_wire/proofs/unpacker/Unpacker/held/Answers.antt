use Rattle.std.proofs.Common.{◌≡◌, ◌≤◌, length, subst, ap, arith, rules}
use Rattle.iso_table.specs.Sizes.{max_bytes}
use Rattle.iso_wire.specs.Unpacker.{Feeding}
use Rattle.iso_wire.proofs.Longest.{ready_is_small}
use Rattle.iso_wire.proofs.unpacker.Unpacker.held.Goals as goal

pub returns-clause-most : goal.returns-clause-most
returns-clause-most c =
    let inside = c.self.inside in
    let small = subst (λ (x : Feeding). length x.taken ≤ max_bytes x.table) c.self.view_is (ready_is_small c.parts.ensures inside.table.now inside.taken.items inside.stopped c.self.invariant.0) in
    let same = ap (λ (x : Feeding). length x.taken) c.self.view_is in
    omega (arith, small, same, c.len.ensures)

pub returns-clause-held : goal.returns-clause-held
returns-clause-held c =
    let held : c.len.result ≡ length c.args.self.now.taken = search rules in
    held
