use Rattle.std.proofs.Common.{refl, [], ◌∷◌}
use Rattle.iso_record.specs.declared.row.Row.{Row}
use Rattle.iso_shared.proofs.Logs.{adds_ready, adds_synced, adds_pending, adds_left, ready_left, stays_left_more}
use Rattle.iso_shared.proofs.log.SharedLogLog.append.Goals as goal

pub returns-then-is_some-clause-crash : goal.returns-then-is_some-clause-crash
returns-then-is_some-clause-crash g c = λ is.
    let old = c.args.self.now in
    ready_left g.S.Store.kept g.S.Store.sent old old is refl (c.args.order ∷ [])

pub returns-in-Ok-clause-ready : goal.returns-in-Ok-clause-ready
returns-in-Ok-clause-ready g c = λ is.
    let row : Row = record { order = c.args.order; answer = c.args.answer } in
    adds_ready g.S.Store.kept g.S.Store.sent c.args.self.now c.add.new.self c.batches_come_back.ensures.back row is c.in-Ok.ensures.adds

pub returns-in-Ok-clause-synced : goal.returns-in-Ok-clause-synced
returns-in-Ok-clause-synced g c = λ is.
    let row : Row = record { order = c.args.order; answer = c.args.answer } in
    adds_synced g.S.Store.kept g.S.Store.sent c.args.self.now c.add.new.self c.batches_come_back.ensures.back row is c.in-Ok.ensures.adds

pub returns-in-Ok-clause-pending : goal.returns-in-Ok-clause-pending
returns-in-Ok-clause-pending g c = λ is.
    let row : Row = record { order = c.args.order; answer = c.args.answer } in
    adds_pending g.S.Store.kept g.S.Store.sent c.args.self.now c.add.new.self c.batches_come_back.ensures.back row is c.in-Ok.ensures.adds

pub returns-in-Ok-clause-crash : goal.returns-in-Ok-clause-crash
returns-in-Ok-clause-crash g c = λ is.
    let row : Row = record { order = c.args.order; answer = c.args.answer } in
    adds_left g.S.Store.kept g.S.Store.sent c.args.self.now c.add.new.self c.batches_come_back.ensures.back row c.in-Ok.ensures.adds is

pub returns-in-Err-clause-crash : goal.returns-in-Err-clause-crash
returns-in-Err-clause-crash g c = λ is.
    stays_left_more g.S.Store.kept g.S.Store.sent c.args.self.now c.add.new.self is c.in-Err.ensures.stays c.args.order
