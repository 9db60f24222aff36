use Rattle.std.proofs.Common.{None, subst, sym}
use Rattle.iso_wire.specs.Contents.{Contents}
use Rattle.iso_wire.specs.Ends.{views}
use Rattle.iso_wire.specs.LookUps.{ChangesAlone}
use Rattle.iso_wire.proofs.LookUps.{without_alone}
use Rattle.iso_wire.proofs.Orders.{IsAscending-without, Values}
use Rattle.iso_wire.proofs.message.Message.unset.Goals as goal

pub invariant_of-self : goal.invariant_of-self
invariant_of-self c = (c.remove.ensures.whole, rw c.remove.ensures.left (IsAscending-without 2 c.args.n _ c.self.invariant.1), c.remove.ensures.numbered)

pub returns-clause-alone : goal.returns-clause-alone
returns-clause-alone c =
    let n = c.args.n in
    let old : Values = views c.self.inside.elements in
    let changed = subst (λ (es : Values). ChangesAlone n None old es) (sym c.remove.ensures.left) (without_alone n old) in
    subst (λ (m : Contents). ChangesAlone n None m.elements (views c.remove.new.self)) c.self.view_is changed
