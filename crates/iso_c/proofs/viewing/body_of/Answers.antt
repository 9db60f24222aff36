use Rattle.std.proofs.Common.{◌<◌, arith}
use Rattle.iso_wire.specs.Reading.{message_at}
use Rattle.iso_c.proofs.ViewingLemmas.{viewed_ascend, body_missing, none_above}
use Rattle.iso_c.proofs.viewing.body_of.Goals as goal

pub returns-clause-fault : goal.returns-clause-fault
returns-clause-fault c =
    let t = c.args.table.now in
    let b = c.args.bytes.now in
    let view = c.in_ok-viewed.viewed in
    let high : 128 < c.args.number = omega (arith, c.if-number-le128.false) in
    let none = none_above 2 c.args.number view.wires (viewed_ascend t view b c.in_ok-viewed.ensures.found) high in
    rw c.at_element.ensures (body_missing t view b c.args.number (message_at t b) c.in_ok-viewed.ensures.exact none)
