use Rattle.std.proofs.Common.{◌≡◌, ◌∙◌, ◌++◌, ◌-◌, ap, arith, length, take, drop, subst, List, ℕ}
use Rattle.std.proofs.lemmas.List.{length-drop, take_all}
use Rattle.iso_issuer.specs.Books.{Books}
use Rattle.iso_issuer.specs.Laws.{books_after}
use Rattle.iso_host.specs.Asking.{orders_of}
use Rattle.iso_peers.specs.Pieces.{TakesNext}
use Rattle.iso_peers.specs.Turn.{TakesOf, at_books}
use Rattle.iso_peers.proofs.InStep.{after_more}
use Rattle.iso_peers.proofs.Pieces.{by_orders}
use Rattle.iso_peers.proofs.taking.take_pieces.Goals as goal

pub pieces-init : goal.pieces-init
pieces-init c = c.piece_by_piece.ensures.none c.args.connection.now c.args.bytes.now

pub returns-in-Err-clause-enters : goal.returns-in-Err-clause-enters
returns-in-Err-clause-enters c =
    let so = c.pieces.invariant in
    let old = c.args.host.now in
    let came = orders_of c.args.connection.now.peer.table so.bodies in
    let last = c.take_piece.ensures.enters in
    (came ++ last.0, last.1 ∙ ap (λ (b : Books). books_after b last.0) (so.books ∙ by_orders c.args.connection.now.peer.table old so.bodies) ∙ after_more c.firsts_go_on.ensures old came last.0)

pub returns-then-used-bytes-clause-enters : goal.returns-then-used-bytes-clause-enters
returns-then-used-bytes-clause-enters c =
    let so = c.pieces.invariant in
    let old = c.args.host.now in
    let came = orders_of c.args.connection.now.peer.table so.bodies in
    let last = c.take_piece.ensures.enters in
    (came ++ last.0, last.1 ∙ ap (λ (b : Books). books_after b last.0) (so.books ∙ by_orders c.args.connection.now.peer.table old so.bodies) ∙ after_more c.firsts_go_on.ensures old came last.0)

pub pieces-preserved : goal.pieces-preserved
pieces-preserved c =
    let bytes = c.args.bytes.now in
    let used = c.pieces.used in
    let mid = at_books c.pieces.connection c.pieces.host in
    let last = at_books c.take_piece.new.connection c.take_piece.new.host in
    let rest : take (length bytes - used) (drop used bytes) ≡ drop used bytes = take_all (length bytes - used) (drop used bytes) (omega (arith, length-drop used bytes)) in
    let took : TakesNext mid last (drop used bytes) c.in-Ok.taken = record {
      took = subst (λ (l : List ℕ). TakesOf mid last l c.in-Ok.taken) rest c.in-Ok.ensures.took;
      table = c.take_piece.ensures.table;
      header = c.take_piece.ensures.header;
    } in
    c.piece_by_piece.ensures.next _ mid last bytes used c.in-Ok.taken c.pieces.invariant took

pub returns-then-used-bytes-clause-took : goal.returns-then-used-bytes-clause-took
returns-then-used-bytes-clause-took c =
    let bytes = c.args.bytes.now in
    let used = c.pieces.used in
    let mid = at_books c.pieces.connection c.pieces.host in
    let last = at_books c.take_piece.new.connection c.take_piece.new.host in
    let rest : take (length bytes - used) (drop used bytes) ≡ drop used bytes = take_all (length bytes - used) (drop used bytes) (omega (arith, length-drop used bytes)) in
    let took : TakesNext mid last (drop used bytes) c.in-Ok.taken = record {
      took = subst (λ (l : List ℕ). TakesOf mid last l c.in-Ok.taken) rest c.in-Ok.ensures.took;
      table = c.take_piece.ensures.table;
      header = c.take_piece.ensures.header;
    } in
    c.piece_by_piece.ensures.all _ mid last bytes used c.in-Ok.taken c.pieces.invariant took c.if-used-bytes.true
