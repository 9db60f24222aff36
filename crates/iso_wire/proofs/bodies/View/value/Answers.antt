use Rattle.iso_wire.specs.Bodies.{viewed_of}
use Rattle.iso_wire.proofs.ViewedValues.{no_value, value_is_read, value_memory}
use Rattle.iso_wire.proofs.bodies.View.value.Goals as goal

pub returns-in_default-clause-value : goal.returns-in_default-clause-value
returns-in_default-clause-value c =
    let it = c.self.inside in
    let v = viewed_of it.outline it.bytes it.bodies in
    rw (← c.self.view_is) (λ m size viewed begins. no_value c.reads_spellings.ensures.exact c.args.table.now v c.front_of-front.ensures.good c.are_bytes.ensures c.args.n m size viewed begins (c.in_default.ensures it.bytes))

pub returns-in-Ok-clause-value : goal.returns-in-Ok-clause-value
returns-in-Ok-clause-value c =
    let it = c.self.inside in
    let v = viewed_of it.outline it.bytes it.bodies in
    let lies = c.in-Some.ensures it.bytes in
    let read = rw (c.new-value.ensures.items, c.saturating_sub-at.ensures, c.front_of-front.ensures.front) at c.in-Ok.ensures.exact in
    rw (← c.self.view_is) (λ m size viewed begins. value_is_read c.reads_spellings.ensures.exact c.args.table.now v c.front_of-front.ensures.good c.are_bytes.ensures c.parts.ensures c.args.n c.in-Some.place.start c.in-Ok.field-0 c.read_value.new.values.items m size viewed begins lies.3 read)

pub returns-in-Err-clause-memory : goal.returns-in-Err-clause-memory
returns-in-Err-clause-memory c =
    let it = c.self.inside in
    let v = viewed_of it.outline it.bytes it.bodies in
    let lies = c.in-Some.ensures it.bytes in
    let fault = rw (c.saturating_sub-at.ensures, c.front_of-front.ensures.front) at c.in-Err.ensures.exact in
    rw (← c.self.view_is) (λ viewed. value_memory c.reads_spellings.ensures.exact c.args.table.now v c.front_of-front.ensures.good c.are_bytes.ensures c.parts.ensures c.args.n c.in-Some.place.start c.in-Err.fault viewed lies.3 fault)
