use Rattle.std.proofs.Common.{◌≡◌, ◌∙◌, ◌-◌, arith, length, take, drop, refl, subst, List, ℕ}
use Rattle.std.proofs.lemmas.List.{length-drop, take_all}
use Rattle.iso_peers.specs.Pieces.{TakesNext}
use Rattle.iso_peers.specs.Turn.{TakesOf, at_books}
use Rattle.iso_service.proofs.taking.take_counted.Goals as goal

pub pieces-init : goal.pieces-init
pieces-init g c = record {
  so_far = c.piece_by_piece.ensures.none c.args.connection.now c.args.bytes.now;
  log = refl;
  kept = refl;
  failed = refl;
  step = λ s. s;
}

pub pieces-preserved : goal.pieces-preserved
pieces-preserved g c =
    let so = c.pieces.invariant in
    let bytes = c.args.bytes.now in
    let used = c.pieces.used in
    let mid = at_books c.pieces.connection c.pieces.host.host in
    let last = at_books c.take.new.connection c.take.new.self.host in
    let rest : take (length bytes - used) (drop used bytes) ≡ drop used bytes = take_all (length bytes - used) (drop used bytes) (omega (arith, length-drop used bytes)) in
    let took : TakesNext mid last (drop used bytes) c.in-Ok.taken = record {
      took = subst (λ (l : List ℕ). TakesOf mid last l c.in-Ok.taken) rest c.in-Ok.ensures.took;
      table = c.take.ensures.table;
      header = c.take.ensures.header;
    } in
    record {
      so_far = c.piece_by_piece.ensures.next _ mid last bytes used c.in-Ok.taken so.so_far took;
      log = c.take.ensures.log ∙ so.log;
      kept = c.take.ensures.kept ∙ so.kept;
      failed = c.take.ensures.failed ∙ so.failed;
      step = λ s. c.take.ensures.step (so.step s);
    }

pub returns-then-used-bytes-clause-took : goal.returns-then-used-bytes-clause-took
returns-then-used-bytes-clause-took g c =
    let bytes = c.args.bytes.now in
    let used = c.pieces.used in
    let mid = at_books c.pieces.connection c.pieces.host.host in
    let last = at_books c.take.new.connection c.take.new.self.host in
    let rest : take (length bytes - used) (drop used bytes) ≡ drop used bytes = take_all (length bytes - used) (drop used bytes) (omega (arith, length-drop used bytes)) in
    let took : TakesNext mid last (drop used bytes) c.in-Ok.taken = record {
      took = subst (λ (l : List ℕ). TakesOf mid last l c.in-Ok.taken) rest c.in-Ok.ensures.took;
      table = c.take.ensures.table;
      header = c.take.ensures.header;
    } in
    rw c.turned-then-used-bytes.ensures (c.piece_by_piece.ensures.all _ mid last bytes used c.in-Ok.taken c.pieces.invariant.so_far took c.if-used-bytes.true)
