use Rattle.std.proofs.Common.{arith, Ok}
use Rattle.iso_wire.specs.Bodies.{viewed_of}
use Rattle.iso_wire.proofs.Views.{views_as, handed_on}
use Rattle.iso_wire.proofs.viewing.view_of.Goals as goal

pub returns-clause-exact : goal.returns-clause-exact
returns-clause-exact c =
    let b = c.args.bytes in
    views_as c.parts.ensures c.args.table.now b (Ok (viewed_of c.in_ok-outline.outline b c.outline_of.new.bodies)) c.outline_of.ensures.good (λ i. omega (arith, c.type_inv.bytes i)) c.in_ok-outline.ensures.exact

pub returns-clause-fits : goal.returns-clause-fits
returns-clause-fits c = λ i. omega (arith, c.type_inv.bytes i)

pub returns-in_err-outline-clause-exact : goal.returns-in_err-outline-clause-exact
returns-in_err-outline-clause-exact c =
    let failed = handed_on c.from_residual.result c.in_err-outline.field-0.0 _ c.in_err-outline.ensures.exact c.from_residual.ensures.0 c.from_residual.ensures.1 in
    views_as c.parts.ensures c.args.table.now c.args.bytes c.from_residual.result c.outline_of.ensures.good (λ i. omega (arith, c.type_inv.bytes i)) failed

pub returns-in_err-outline-clause-fits : goal.returns-in_err-outline-clause-fits
returns-in_err-outline-clause-fits c = λ i. omega (arith, c.type_inv.bytes i)
