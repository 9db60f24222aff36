use Rattle.std.proofs.Common.{subst, ◌++◌, length, arith}
use Rattle.iso_wire.proofs.Feeds.{found_fed, ready_after}
use Rattle.iso_wire.proofs.Bytes.{bytes_append}
use Rattle.iso_wire.proofs.StopsLaws.{fed_stops, stop_is_fed}
use Rattle.iso_wire.specs.Spelling.{AreBytes}
use Rattle.iso_wire.proofs.taking.take.Goals as goal

pub returns-clause-ready : goal.returns-clause-ready
returns-clause-ready c = ready_after c.args.table.now c.args.taken.now.items c.take_piece.new.taken.items c.args.piece.now c.take_piece.result c.requires.short c.take_piece.ensures.exact c.take_piece.ensures.kept

pub returns-clause-found : goal.returns-clause-found
returns-clause-found c =
    let old = c.args.taken.now.items in
    let piece = c.args.piece.now in
    let old_fits : AreBytes old = subst AreBytes c.deref.ensures.value c.are_bytes.ensures in
    found_fed c.reads_spellings.ensures.exact c.reads_spellings.ensures.stays c.args.table.now (old ++ piece) (length old) c.take_piece.result c.take_piece.ensures.good (bytes_append old piece old_fits (λ i. omega (arith, c.type_inv.piece i))) c.take_piece.ensures.exact

pub returns-clause-stops : goal.returns-clause-stops
returns-clause-stops c =
    let old = c.args.taken.now.items in
    let piece = c.args.piece.now in
    let old_fits : AreBytes old = subst AreBytes c.deref.ensures.value c.are_bytes.ensures in
    fed_stops c.stops.ensures.exact c.args.table.now (length old) (old ++ piece) c.take_piece.result c.take_piece.ensures.good (bytes_append old piece old_fits (λ i. omega (arith, c.type_inv.piece i))) c.take_piece.ensures.exact

pub returns-clause-told : goal.returns-clause-told
returns-clause-told c =
    let old = c.args.taken.now.items in
    let piece = c.args.piece.now in
    let old_fits : AreBytes old = subst AreBytes c.deref.ensures.value c.are_bytes.ensures in
    stop_is_fed c.stops.ensures.exact c.args.table.now (length old) (old ++ piece) c.take_piece.result c.take_piece.ensures.good (bytes_append old piece old_fits (λ i. omega (arith, c.type_inv.piece i))) c.take_piece.ensures.exact
