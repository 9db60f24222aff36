use Rattle.std.proofs.Common.{◌≡◌, ◌∙◌, ◌-◌, arith, length, take, drop, refl, sym, subst, List, ℕ}
use Rattle.std.proofs.lemmas.List.{length-drop, take_all}
use Rattle.iso_issuer.specs.Books.{Books}
use Rattle.iso_host.specs.Entering.{StaysWithout}
use Rattle.iso_peers.specs.Pieces.{TakesNext}
use Rattle.iso_peers.specs.Turn.{TakesOf, RefusesTurn, at_books, books_change}
use Rattle.iso_lines.proofs.Heard.{more_heard, so_heard, take_heard}
use Rattle.iso_lines.proofs.Pieces.{stopped_takes, stopped_refuses}
use Rattle.iso_lines.proofs.taking.take_noted.Goals as goal

pub pieces-init : goal.pieces-init
pieces-init g c = record {
  so_far = c.piece_by_piece.ensures.none c.args.connection.now c.args.bytes.now;
  log = refl;
  kept = refl;
  failed = refl;
  step = λ s. s;
}

pub pieces-preserved : goal.pieces-preserved
pieces-preserved g c =
    let so = c.pieces.invariant in
    let bytes = c.args.bytes.now in
    let used = c.pieces.used in
    let mid = at_books c.pieces.connection c.pieces.host.host in
    let last = at_books c.take.new.connection c.take.new.self.host in
    let rest : take (length bytes - used) (drop used bytes) ≡ drop used bytes = take_all (length bytes - used) (drop used bytes) (omega (arith, length-drop used bytes)) in
    let took : TakesNext mid last (drop used bytes) c.in-Ok.taken = record {
      took = subst (λ (l : List ℕ). TakesOf mid last l c.in-Ok.taken) rest c.in-Ok.ensures.took;
      table = c.take.ensures.table;
      header = c.take.ensures.header;
    } in
    record {
      so_far = c.piece_by_piece.ensures.next _ mid last bytes used c.in-Ok.taken so.so_far took;
      log = c.take.ensures.log ∙ so.log;
      kept = c.take.ensures.kept ∙ so.kept;
      failed = c.take.ensures.failed ∙ so.failed;
      step = λ s. c.take.ensures.step (so.step s);
    }

pub returns-then-used-bytes-clause-took : goal.returns-then-used-bytes-clause-took
returns-then-used-bytes-clause-took g c =
    let bytes = c.args.bytes.now in
    let used = c.pieces.used in
    let mid = at_books c.pieces.connection c.pieces.host.host in
    let last = at_books c.take.new.connection c.take.new.self.host in
    let rest : take (length bytes - used) (drop used bytes) ≡ drop used bytes = take_all (length bytes - used) (drop used bytes) (omega (arith, length-drop used bytes)) in
    let took : TakesNext mid last (drop used bytes) c.in-Ok.taken = record {
      took = subst (λ (l : List ℕ). TakesOf mid last l c.in-Ok.taken) rest c.in-Ok.ensures.took;
      table = c.take.ensures.table;
      header = c.take.ensures.header;
    } in
    c.piece_by_piece.ensures.all _ mid last bytes used c.in-Ok.taken c.pieces.invariant.so_far took c.if-used-bytes.true

pub returns-in-Err-clause-took : goal.returns-in-Err-clause-took
returns-in-Err-clause-took g c =
    let bytes = c.args.bytes.now in
    let used = c.pieces.used in
    let host = c.pieces.host in
    let old = c.pieces.connection in
    let new = c.take.new in
    let rest : take (length bytes - used) (drop used bytes) ≡ drop used bytes = take_all (length bytes - used) (drop used bytes) (omega (arith, length-drop used bytes)) in
    let refused = subst (λ (l : List ℕ). RefusesTurn host.has_failed old.peer (books_change host.host new.self.host) l c.in-Err.fault) rest c.in-Err.ensures.refused in
    rw c.stopped_at.ensures (stopped_takes c.args.host.now.host c.piece_by_piece.ensures (at_books c.args.connection.now c.args.host.now.host) (at_books old host.host) new.connection new.self.host bytes used c.pieces.invariant.so_far c.in-Err.ensures.unchanged
    host.has_failed c.in-Err.fault refused)

pub returns-in-Err-clause-refused : goal.returns-in-Err-clause-refused
returns-in-Err-clause-refused g c =
    rw (c.stopped_at.ensures, sym c.pieces.invariant.failed) (stopped_refuses c.pieces.host.has_failed c.pieces.connection.peer (books_change c.pieces.host.host c.take.new.self.host) _ c.pieces.used c.in-Err.fault
    c.in-Err.ensures.refused)

pub returns-in-Err-clause-heard : goal.returns-in-Err-clause-heard
returns-in-Err-clause-heard g c =
    more_heard c.args.host.now.host c.pieces.host.host c.take.new.self.host
    (so_heard _ _ _ _ c.one_journal.ensures.more (subst (λ (b : Books). StaysWithout b) c.issuer.ensures c.one_journal.ensures.none) c.pieces.invariant.so_far)
    (take_heard c.one_journal.ensures.alone _ c.pieces.connection c.take.new.connection c.pieces.host.host c.take.new.self.host _ c.take.result c.take.ensures.took c.take.ensures.refused)

pub returns-then-used-bytes-clause-heard : goal.returns-then-used-bytes-clause-heard
returns-then-used-bytes-clause-heard g c =
    more_heard c.args.host.now.host c.pieces.host.host c.take.new.self.host
    (so_heard _ _ _ _ c.one_journal.ensures.more (subst (λ (b : Books). StaysWithout b) c.issuer.ensures c.one_journal.ensures.none) c.pieces.invariant.so_far)
    (take_heard c.one_journal.ensures.alone _ c.pieces.connection c.take.new.connection c.pieces.host.host c.take.new.self.host _ c.take.result c.take.ensures.took c.take.ensures.refused)
