use Rattle.std.proofs.lemmas.Result.{err_from_is_err_and}
use Rattle.iso_wire.specs.Ends.{views}
use Rattle.iso_wire.specs.Beginning.{begun}
use Rattle.iso_parts.specs.Numbers.{members}
use Rattle.iso_wire.proofs.Built.{beginning_fault, elements_fault, message_built}
use Rattle.iso_wire.proofs.ElementLaws.{numbers_read}
use Rattle.iso_wire.proofs.Numbered.{ascending_members}
use Rattle.iso_wire.proofs.unpacking.read_message.Goals as goal

pub returns-clause-exact : goal.returns-clause-exact
returns-clause-exact c =
    message_built c.args.table.now c.args.bytes.now (begun c.in_ok-begun.begun) (views c.read_elements.new.elements) c.in_ok-end.end c.in_ok-begun.ensures.exact c.in_ok-end.ensures.exact

pub returns-clause-ascending : goal.returns-clause-ascending
returns-clause-ascending c =
    let numbers = c.in_ok-begun.begun.numbers in
    let es = views c.read_elements.new.elements in
    ascending_members numbers es c.in_ok-begun.ensures.elements (numbers_read c.args.table.now.rows (members numbers) _ _ es c.in_ok-end.end c.in_ok-end.ensures.exact)

pub returns-in_err-begun-clause-exact : goal.returns-in_err-begun-clause-exact
returns-in_err-begun-clause-exact c =
    let handed = err_from_is_err_and c.from_residual.result c.from_residual.ensures.1 in
    rw (handed.1, handed.2) (beginning_fault c.args.table.now c.args.bytes.now c.in_err-begun.field-0.0 c.in_err-begun.ensures.exact)

pub returns-in_err-end-clause-exact : goal.returns-in_err-end-clause-exact
returns-in_err-end-clause-exact c =
    let handed = err_from_is_err_and c.from_residual-in_err-end.result c.from_residual-in_err-end.ensures.1 in
    rw (handed.1, handed.2) (elements_fault c.args.table.now c.args.bytes.now (begun c.in_ok-begun.begun) c.in_err-end.field-0.0 c.in_ok-begun.ensures.exact c.in_err-end.ensures.exact)
