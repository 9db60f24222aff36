use Rattle.std.proofs.Common.{◌≡◌, ◌≤◌, ◌-◌, ℕ, ◌∷◌, List, length, take, drop, subst, rules}
use Rattle.iso_parts.specs.Numbers.{members}
use Rattle.iso_wire.specs.Ends.{Ascend, elements_of}
use Rattle.iso_wire.proofs.Buffers.{ascend_le}
use Rattle.iso_wire.proofs.iteration.IterIterator.next.Goals as goal

pub slice_bounds-value-end : goal.slice_bounds-value-end
slice_bounds-value-end c =
    let it = c.self.inside in
    let end = c.in_ok-end.end.now in
    let later = c.in_ok-end.later.now in
    let is : it.ends.now ≡ end ∷ later = search rules in
    let own = subst (λ (l : List ℕ). Ascend it.start l (length it.values.now)) is c.self.invariant.0 in
    let within : end ≤ length it.values.now = ascend_le end (length it.values.now) later own.1 in
    search rules

pub returns-clause-steps : goal.returns-clause-steps
returns-clause-steps c =
    let it = c.self.inside in
    let end = c.in_ok-end.end.now in
    let values = it.values.now in
    let rest = elements_of (members c.take_first.new.self) end c.in_ok-end.later.now values in
    let steps : c.args.self.now ≡ (c.in_ok-n.n, take (end - it.start) (drop it.start values)) ∷ rest = search rules in
    steps
