use Rattle.std.proofs.Common.{◌∙◌, ◌++◌, ap, drop, refl, List}
use Rattle.iso_order.specs.Order.{Instruction}
use Rattle.iso_peers.proofs.Leaving.{leaves_part, leaves_behind}
use Rattle.iso_peers.proofs.keeping.keep_from.Goals as goal

pub returns-in_err-make_room-clause-crash : goal.returns-in_err-make_room-clause-crash
returns-in_err-make_room-clause-crash g c = λ is.
    let waiting = g.L.Log.pending c.args.log.now in
    let rest = drop c.args.kept c.args.issuer.now.orders in
    leaves_part (g.L.Log.may_leave c.make_room.new.self) (g.L.Log.synced c.args.log.now) (g.L.Log.synced c.args.log.now) waiting rest (waiting ++ rest) refl refl (c.make_room.ensures.crash is)

pub returns-in_err-append_from-clause-crash : goal.returns-in_err-append_from-clause-crash
returns-in_err-append_from-clause-crash g c = λ is.
    let ok = c.in_ok-make_room.ensures in
    let rest = drop c.args.kept c.args.issuer.now.orders in
    let roomy = c.make_room.new.self in
    leaves_behind (g.L.Log.may_leave c.append_from.new.log) (g.L.Log.synced c.args.log.now) (g.L.Log.pending c.args.log.now) rest (g.L.Log.synced roomy) (g.L.Log.pending roomy ++ rest)
    (ok.synced is) (ap (λ (l : List Instruction). l ++ rest) (ok.none is)) (c.append_from.ensures.crash (ok.ready is))

pub returns-clause-crash : goal.returns-clause-crash
returns-clause-crash g c = λ is.
    let ok = c.in_ok-make_room.ensures in
    let all = c.in_ok-append_from.ensures in
    let rest = drop c.args.kept c.args.issuer.now.orders in
    let full = c.append_from.new.log in
    leaves_behind (g.L.Log.may_leave c.sync.new.self) (g.L.Log.synced c.args.log.now) (g.L.Log.pending c.args.log.now) rest (g.L.Log.synced full) (g.L.Log.pending full)
    (all.synced (ok.ready is) ∙ ok.synced is) (all.pending (ok.ready is) ∙ ap (λ (l : List Instruction). l ++ rest) (ok.none is)) (c.sync.ensures.crash (all.ready (ok.ready is)))
