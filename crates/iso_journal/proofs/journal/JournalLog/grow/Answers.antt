use Rattle.iso_journal.specs.Orders.{order_of}
use Rattle.iso_journal.proofs.journal.JournalLog.grow.Goals as goal

pub returns-in-Ok-clause-ready : goal.returns-in-Ok-clause-ready
returns-in-Ok-clause-ready g c = λ is.
    let laws = c.headed_logs.ensures order_of in
    record {
      log_is = c.in-Ok.ensures.log is.log_is;
      headed = laws.headed c.args.self.now.log c.grow.new.self is (record { all = c.in-Ok.ensures.synced is.log_is; same = c.in-Ok.ensures.records is.log_is });
    }

pub returns-in-Ok-clause-synced : goal.returns-in-Ok-clause-synced
returns-in-Ok-clause-synced g c = λ is.
    let laws = c.headed_logs.ensures order_of in
    laws.synced c.args.self.now.log c.grow.new.self is (record { all = c.in-Ok.ensures.synced is.log_is; same = c.in-Ok.ensures.records is.log_is })

pub returns-in-Ok-clause-none : goal.returns-in-Ok-clause-none
returns-in-Ok-clause-none g c = λ is.
    let laws = c.headed_logs.ensures order_of in
    laws.none c.grow.new.self (c.in-Ok.ensures.synced is.log_is)

pub returns-in-Ok-clause-crash : goal.returns-in-Ok-clause-crash
returns-in-Ok-clause-crash g c = λ is.
    let laws = c.headed_logs.ensures order_of in
    laws.crash c.args.self.now.log c.grow.new.self is (c.grow.ensures.crash is.log_is)

pub returns-in-Err-clause-crash : goal.returns-in-Err-clause-crash
returns-in-Err-clause-crash g c = λ is.
    let laws = c.headed_logs.ensures order_of in
    laws.crash c.args.self.now.log c.grow.new.self is (c.grow.ensures.crash is.log_is)
