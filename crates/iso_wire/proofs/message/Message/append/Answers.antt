use Rattle.iso_wire.proofs.Orders.{IsAscending-one, IsAscending-push}
use Rattle.iso_wire.proofs.Changes.{either_end, views_same}
use Rattle.iso_wire.proofs.message.Message.append.Goals as goal

pub invariant_of-self : goal.invariant_of-self
invariant_of-self c =
    let good = IsAscending-one c.args.n c.args.value.now c.requires.number in
    let below = rw (← c.self.view_is) at c.requires.behind in (
      c.append.ensures.whole,
      either_end c.append.result c.append.ensures.ok c.append.ensures.err
          (λ done. rw done (IsAscending-push 2 c.args.n c.args.value.now _ good.0 good.1 good.2 below c.self.invariant.1))
          (λ kept. rw (views_same _ _ kept) c.self.invariant.1),
      c.append.ensures.numbered,
    )
