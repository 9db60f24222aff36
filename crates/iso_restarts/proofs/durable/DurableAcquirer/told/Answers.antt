use Rattle.std.proofs.Common.{◌∙◌, ap, sym, append-nil}
use Rattle.iso_restarts.specs.declared.note.Note.TheVariants.{Told}
use Rattle.iso_restarts.specs.Durable.{diary_of}
use Rattle.iso_restarts.proofs.Written.{left-more, consistent-wrote}
use Rattle.iso_restarts.proofs.durable.DurableAcquirer.told.Goals as goal

pub returns-then-self-clause-crash : goal.returns-then-self-clause-crash
returns-then-self-clause-crash g c = λ is kept left.
    left-more (diary_of g.L.NoteLog.synced g.L.NoteLog.pending c.args.self.now) (Told c.args.key c.args.code) kept
    (g.met.L.NoteLog.leaves_front c.args.self.now.log is.ready kept left)

pub returns-clause-consistent : goal.returns-clause-consistent
returns-clause-consistent g c = λ is.
    consistent-wrote g.L.NoteLog.is_ready g.L.NoteLog.synced g.L.NoteLog.pending c.args.self.now c.write.new.self is (Told c.args.key c.args.code)
    (record {
      ready = c.in_ok-write.ensures.ready is.ready;
      party = c.write.ensures.acquirer ∙ c.answer.ensures;
      orders = ap (λ v. v.items) c.write.ensures.unsent ∙ sym (append-nil c.args.self.now.unsent.items);
      synced_is = c.in_ok-write.ensures.synced is.ready;
      pending_is = c.in_ok-write.ensures.pending is.ready;
      waits = c.write.ensures.waits;
    })
