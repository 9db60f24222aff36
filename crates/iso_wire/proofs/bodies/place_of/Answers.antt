use Rattle.std.proofs.Common.{◌≡◌, ℕ, ◌+◌, ◌-◌, Some, take, drop, sym, ap, arith, ◌∙◌}
use Rattle.iso_wire.specs.Bodies.{start_at, body_size_at}
use Rattle.iso_parts.specs.Numbers.{members}
use Rattle.iso_wire.proofs.Wires.{set_body, set_within, set_absent, start_there}
use Rattle.iso_wire.proofs.bodies.place_of.Goals as goal

pub returns-then-has : goal.returns-then-has
returns-then-has c =
    let bodies = c.args.bodies.now in
    let numbers = c.args.outline.now.numbers in
    let start = start_at bodies c.args.n in
    let size = body_size_at bodies c.args.n in
    let is = sym c.has.ensures.has ∙ c.if-has.true in
    let whole : size ≡ start + size - start = omega arith in
    λ b. let body = set_body numbers b.now bodies c.args.n c.has.ensures.numbers is in (
      omega arith,
      set_within numbers c.args.outline.now.used bodies c.args.n c.has.ensures.numbers is c.requires.within,
      body ∙ ap (λ (k : ℕ). Some (take k (drop start b.now))) whole,
      start_there b.now bodies (members numbers) _ c.args.n body,
    )

pub returns-else-has : goal.returns-else-has
returns-else-has c = λ b. set_absent c.args.outline.now.numbers b.now c.args.bodies.now c.args.n (sym c.has.ensures.has ∙ c.if-has.false)
