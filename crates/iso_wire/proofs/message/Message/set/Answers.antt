use Rattle.std.proofs.Common.{ℕ, List, Some, subst, sym, rules}
use Rattle.iso_wire.specs.Contents.{Contents}
use Rattle.iso_wire.specs.Ends.{views}
use Rattle.iso_wire.specs.LookUps.{ChangesAlone}
use Rattle.iso_wire.proofs.LookUps.{put_alone}
use Rattle.iso_wire.proofs.Orders.{IsAscending-one, IsAscending-put, Values}
use Rattle.iso_wire.proofs.message.Message.set.Goals as goal

pub invariant_of-self-2 : goal.invariant_of-self-2
invariant_of-self-2 c =
    let good = IsAscending-one c.args.n c.args.value.now (search rules) in
    (c.in_ok-put.ensures.whole, rw c.in_ok-put.ensures.ok (IsAscending-put 2 c.args.n c.args.value.now _ good.0 good.1 good.2 c.self.invariant.1), c.in_ok-put.ensures.numbered)

pub returns-clause-alone : goal.returns-clause-alone
returns-clause-alone c =
    let n = c.args.n in
    let v : List ℕ = c.args.value.now in
    let old : Values = views c.self.inside.elements in
    let changed = subst (λ (es : Values). ChangesAlone n (Some v) old es) (sym c.in_ok-put.ensures.ok) (put_alone n v old) in
    subst (λ (m : Contents). ChangesAlone n (Some v) m.elements (views c.put.new.self)) c.self.view_is changed
