use Rattle.std.proofs.Common.{◌∙◌, ◌++◌, List, append-nil, sym, ap, arith}
use Rattle.iso_order.specs.Order.{Instruction}
use Rattle.iso_journal.specs.Orders.{order_of, synced_orders}
use Rattle.iso_journal.specs.Fronts.{ready_leaves}
use Rattle.iso_journal.proofs.journal.JournalLogLog.make_room.Goals as goal

pub returns-then-self-clause-synced : goal.returns-then-self-clause-synced
returns-then-self-clause-synced g c = λ is.
    let log = c.args.self.now.log in
    let seen = g.D.Disk.seen in
    let laws = c.headed_logs.ensures order_of in
    let none = laws.none log (omega (arith, c.if-self.true, c.files.ensures.counted log.slots log.count (seen log.disk) is.log_is.file)) in
    sym (ap (λ (l : List Instruction). synced_orders seen log ++ l) none ∙ append-nil (synced_orders seen log))

pub returns-then-self-clause-none : goal.returns-then-self-clause-none
returns-then-self-clause-none g c = λ is.
    let log = c.args.self.now.log in
    let laws = c.headed_logs.ensures order_of in
    laws.none log (omega (arith, c.if-self.true, c.files.ensures.counted log.slots log.count (g.D.Disk.seen log.disk) is.log_is.file))

pub returns-then-self-clause-crash : goal.returns-then-self-clause-crash
returns-then-self-clause-crash g c = λ is kept left. ready_leaves c.args.self.now.log is kept left
