use Rattle.std.proofs.Common.{◌≤◌, ℕ, List, length, subst, sym}
use Rattle.iso_wire.specs.Contents.{Contents}
use Rattle.iso_wire.specs.Spelling.{PlainSpelling}
use Rattle.iso_order.specs.Fitting.{IsAskedUnder}
use Rattle.iso_host.proofs.answering.append_answer.Goals as goal

pub append_response-requires-clause-short : goal.append_response-requires-clause-short
append_response-requires-clause-short c =
    let t = c.args.table.now in
    let m = c.args.rooms.now.request in
    let a = c.args.answer.now in
    let served : IsAskedUnder t m a = record { ready = c.requires.ready; bytes = c.requires.read.0; read = c.requires.read.1; shown = c.requires.shown } in
    subst (λ (r : Contents). (bytes : List ℕ) → PlainSpelling t r bytes → length bytes ≤ 9999) (sym c.in_ok-respond_into.ensures.whole)
    (λ bytes plain. c.responses_are_short.ensures t m a bytes served plain)
