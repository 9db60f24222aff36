use Rattle.std.proofs.Common.{◌≡◌, ◌∙◌, ◌+◌, ◌++◌, [], ℕ, List, ap, subst, arith}
use Rattle.iso_log.specs.Slots.{slot, slots_from}
use Rattle.iso_log.specs.Headed.{behind}
use Rattle.iso_journal.specs.Orders.{orders_of}
use Rattle.iso_journal.specs.Written.{AreWritten, IsWritten}
use Rattle.iso_journal.proofs.Pieces.{some_entered, some_written, some_damaged}
use Rattle.iso_journal.proofs.replaying.replay_records.Goals as goal

pub returns-then-replayed-some-clause-fault : goal.returns-then-replayed-some-clause-fault
returns-then-replayed-some-clause-fault g c = λ clean slots is.
    let l = c.loop-place in
    let e = c.in_ok-replayed.ensures in
    let n = c.in_ok-replayed.replayed in
    let room = c.piece_len-some.ensures.within in
    let lt = c.if-replayed-some.true in
    let before = e.clean clean in
    some_damaged c.files.ensures slots c.args.count (g.D.Disk.seen c.args.disk.now) l.place n is (omega (arith, room, lt)) l.invariant.least
    c.args.accounts c.args.limit l.issuer l.invariant.accounts l.invariant.limit (l.invariant.orders before slots is) (omega (arith, room, lt)) (l.invariant.written before slots is)
    (subst (λ (f : List ℕ). AreWritten l.issuer.accounts l.issuer.limit l.issuer.orders (slots_from n l.place f)) l.invariant.seen (e.written clean))
    (subst (λ (f : List ℕ). IsWritten l.issuer.accounts l.issuer.limit (l.issuer.orders ++ orders_of (slots_from n l.place f)) (slot f (l.place + n)) → ⊥) l.invariant.seen (e.not lt clean))

pub loop-place-preserved : goal.loop-place-preserved
loop-place-preserved g c =
    let l = c.loop-place in
    let e = c.in_ok-replayed.ensures in
    let n = c.in_ok-replayed.replayed in
    let some = c.piece_len-some.result in
    let room = c.piece_len-some.ensures.within in
    let all : n ≡ some = omega (arith, e.within, c.if-replayed-some.false) in
    let file = g.D.Disk.seen c.args.disk.now in
    let orders = c.replay_some.new.issuer.orders in
    record {
      usable = e.usable;
      clean = λ clean. l.invariant.clean (e.clean clean);
      seen = e.seen ∙ l.invariant.seen;
      crash = λ kept here. l.invariant.crash kept (e.crash kept here);
      accounts = e.accounts all ∙ l.invariant.accounts;
      limit = e.limit all ∙ l.invariant.limit;
      orders = λ clean slots is.
          let before = e.clean clean in
          subst (λ m. orders ≡ orders_of (behind (l.place + m) file)) all
          (some_entered c.files.ensures slots c.args.count file l.place n is (omega (arith, room, all)) l.invariant.least c.args.accounts c.args.limit l.issuer l.invariant.accounts l.invariant.limit
          (l.invariant.orders before slots is) orders
          (subst (λ (f : List ℕ). orders ≡ l.issuer.orders ++ orders_of (slots_from n l.place f)) l.invariant.seen (e.entered all clean)));
      written = λ clean slots is.
          let before = e.clean clean in
          subst (λ m. AreWritten c.args.accounts c.args.limit [] (behind (l.place + m) file)) all
          (some_written c.files.ensures slots c.args.count file l.place n is (omega (arith, room, all)) l.invariant.least c.args.accounts c.args.limit l.issuer l.invariant.accounts l.invariant.limit
          (l.invariant.orders before slots is) (l.invariant.written before slots is)
          (subst (λ (f : List ℕ). AreWritten l.issuer.accounts l.issuer.limit l.issuer.orders (slots_from n l.place f)) l.invariant.seen (e.written clean)));
      least = omega (arith, l.invariant.least);
      most = omega (arith, room);
    }

pub returns-clause-orders : goal.returns-clause-orders
returns-clause-orders g c = λ clean slots is.
    c.loop-place.invariant.orders clean slots is ∙ ap orders_of (c.files.ensures.all slots c.args.count (g.D.Disk.seen c.args.disk.now) c.loop-place.place is (omega (arith, c.loop-place-test.false)))

pub returns-clause-written : goal.returns-clause-written
returns-clause-written g c = λ clean slots is.
    subst (AreWritten c.args.accounts c.args.limit []) (c.files.ensures.all slots c.args.count (g.D.Disk.seen c.args.disk.now) c.loop-place.place is (omega (arith, c.loop-place-test.false)))
    (c.loop-place.invariant.written clean slots is)
