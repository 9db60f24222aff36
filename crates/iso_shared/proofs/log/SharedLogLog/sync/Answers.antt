use Rattle.iso_shared.specs.Fronts.{ready_leaves}
use Rattle.iso_shared.proofs.Logs.{flushes_ready, flushes_synced, flushes_none, flushes_left, stays_left}
use Rattle.iso_shared.proofs.log.SharedLogLog.sync.Goals as goal

pub returns-then-is_some-clause-crash : goal.returns-then-is_some-clause-crash
returns-then-is_some-clause-crash g c = λ is. ready_leaves g.S.Store.kept c.args.self.now is

pub returns-in-Ok-clause-ready : goal.returns-in-Ok-clause-ready
returns-in-Ok-clause-ready g c = λ is.
    flushes_ready g.S.Store.kept g.S.Store.sent c.args.self.now c.flush.new.self c.batches_come_back.ensures.back is c.in-Ok.ensures.flushes

pub returns-in-Ok-clause-synced : goal.returns-in-Ok-clause-synced
returns-in-Ok-clause-synced g c = λ is.
    flushes_synced g.S.Store.kept g.S.Store.sent c.args.self.now c.flush.new.self c.batches_come_back.ensures.back is c.in-Ok.ensures.flushes

pub returns-in-Ok-clause-none : goal.returns-in-Ok-clause-none
returns-in-Ok-clause-none g c = λ is.
    flushes_none g.S.Store.kept g.S.Store.sent c.args.self.now c.flush.new.self c.batches_come_back.ensures.back is c.in-Ok.ensures.flushes

pub returns-in-Ok-clause-crash : goal.returns-in-Ok-clause-crash
returns-in-Ok-clause-crash g c = λ is.
    flushes_left g.S.Store.kept g.S.Store.sent c.args.self.now c.flush.new.self c.batches_come_back.ensures.back is c.in-Ok.ensures.flushes

pub returns-in-Err-clause-crash : goal.returns-in-Err-clause-crash
returns-in-Err-clause-crash g c = λ is.
    stays_left g.S.Store.kept g.S.Store.sent c.args.self.now c.flush.new.self is c.in-Err.ensures.stays
