use Rattle.std.proofs.Common.{ap}
use Rattle.iso_restarts.specs.declared.note.Note.TheVariants.{TimedOut}
use Rattle.iso_restarts.specs.Durable.{diary_of}
use Rattle.iso_restarts.proofs.Written.{left-times-out, consistent-wrote, party-asked, orders-more, orders-after-asked}
use Rattle.iso_restarts.proofs.durable.DurableAcquirer.timed_out.Goals as goal

pub returns-then-self-clause-crash : goal.returns-then-self-clause-crash
returns-then-self-clause-crash g c = λ is kept left.
    left-times-out (diary_of g.L.NoteLog.synced g.L.NoteLog.pending c.args.self.now) c.args.stan kept
    (g.met.L.NoteLog.leaves_front c.args.self.now.log is.ready kept left)

pub returns-in_err-reserve-clause-crash : goal.returns-in_err-reserve-clause-crash
returns-in_err-reserve-clause-crash g c = λ is kept left.
    left-times-out (diary_of g.L.NoteLog.synced g.L.NoteLog.pending c.args.self.now) c.args.stan kept
    (g.met.L.NoteLog.leaves_front c.args.self.now.log is.ready kept left)

pub returns-clause-consistent : goal.returns-clause-consistent
returns-clause-consistent g c = λ is.
    let old = c.args.self.now.acquirer in
    let order = c.in-Ok.order in
    consistent-wrote g.L.NoteLog.is_ready g.L.NoteLog.synced g.L.NoteLog.pending c.args.self.now
    (record {
      acquirer = c.write.new.self.acquirer;
      log = c.write.new.self.log;
      unsent = c.push_reserved.new.self;
      waits = c.write.new.self.waits;
      has_failed = c.write.new.self.has_failed;
    }) is (TimedOut c.args.stan)
    (record {
      ready = c.in_ok-write.ensures.ready is.ready;
      party = party-asked old c.timeout.new.self c.write.new.self.acquirer c.args.stan order c.write.ensures.acquirer c.timeout.ensures.own c.in-Ok.ensures.ok;
      orders = orders-after-asked c.args.self.now.unsent.items c.push_reserved.new.self.items old.slots c.timeout.new.self.slots c.args.stan order c.in-Ok.ensures.ok
          (orders-more c.args.self.now.unsent.items c.reserve.new.self.items c.write.new.self.unsent.items c.push_reserved.new.self.items order
          c.push_reserved.ensures.items (ap (λ v. v.items) c.write.ensures.unsent) c.reserve.ensures.items);
      synced_is = c.in_ok-write.ensures.synced is.ready;
      pending_is = c.in_ok-write.ensures.pending is.ready;
      waits = c.write.ensures.waits;
    })
