use Rattle.std.proofs.Common.{◌≡◌, ◌∙◌, ◌+◌, ◌++◌, ℕ, List, ap, subst, arith}
use Rattle.iso_log.specs.Slots.{slot, slots_from}
use Rattle.iso_log.specs.Headed.{behind}
use Rattle.iso_diary.specs.Notes.{notes_of}
use Rattle.iso_diary.specs.Kept.{AreLines, IsLineAt}
use Rattle.iso_diary.proofs.Pieces.{some_noted, some_read, some_damaged}
use Rattle.iso_diary.proofs.scanning.scan.Goals as goal

pub returns-then-scanned-some-clause-fault : goal.returns-then-scanned-some-clause-fault
returns-then-scanned-some-clause-fault g c = λ clean slots is.
    let l = c.loop-place in
    let e = c.in_ok-scanned.ensures in
    let n = c.in_ok-scanned.scanned in
    let room = c.piece_len-some.ensures.within in
    let lt = c.if-scanned-some.true in
    let before = e.clean clean in
    some_damaged c.files.ensures slots c.args.count (g.D.Disk.seen c.args.disk.now) l.place n is (omega (arith, room, lt)) l.invariant.least (omega (arith, room, lt)) (l.invariant.read before slots is)
    (subst (λ (f : List ℕ). AreLines l.place (slots_from n l.place f)) l.invariant.seen (e.read clean))
    (subst (λ (f : List ℕ). IsLineAt (l.place + n) (slot f (l.place + n)) → ⊥) l.invariant.seen (e.not lt clean))

pub loop-place-preserved : goal.loop-place-preserved
loop-place-preserved g c =
    let l = c.loop-place in
    let e = c.in_ok-scanned.ensures in
    let n = c.in_ok-scanned.scanned in
    let some = c.piece_len-some.result in
    let room = c.piece_len-some.ensures.within in
    let all : n ≡ some = omega (arith, e.within, c.if-scanned-some.false) in
    let file = g.D.Disk.seen c.args.disk.now in
    let notes = c.scan_some.new.notes.items in
    record {
      usable = e.usable;
      clean = λ clean. l.invariant.clean (e.clean clean);
      seen = e.seen ∙ l.invariant.seen;
      crash = λ kept here. l.invariant.crash kept (e.crash kept here);
      notes = λ clean slots is.
          let before = e.clean clean in
          subst (λ m. notes ≡ notes_of (behind (l.place + m) file)) all
          (some_noted c.files.ensures slots c.args.count file l.place n is (omega (arith, room, all)) l.invariant.least l.notes.items notes (l.invariant.notes before slots is)
          (subst (λ (f : List ℕ). notes ≡ l.notes.items ++ notes_of (slots_from n l.place f)) l.invariant.seen (e.more all clean)));
      read = λ clean slots is.
          let before = e.clean clean in
          subst (λ m. AreLines 1 (behind (l.place + m) file)) all
          (some_read c.files.ensures slots c.args.count file l.place n is (omega (arith, room, all)) l.invariant.least (l.invariant.read before slots is)
          (subst (λ (f : List ℕ). AreLines l.place (slots_from n l.place f)) l.invariant.seen (e.read clean)));
      least = omega (arith, l.invariant.least);
      most = omega (arith, room);
    }

pub returns-clause-notes : goal.returns-clause-notes
returns-clause-notes g c = λ clean slots is.
    c.loop-place.invariant.notes clean slots is ∙ ap notes_of (c.files.ensures.all slots c.args.count (g.D.Disk.seen c.args.disk.now) c.loop-place.place is (omega (arith, c.loop-place-test.false)))

pub returns-clause-read : goal.returns-clause-read
returns-clause-read g c = λ clean slots is.
    subst (AreLines 1) (c.files.ensures.all slots c.args.count (g.D.Disk.seen c.args.disk.now) c.loop-place.place is (omega (arith, c.loop-place-test.false)))
    (c.loop-place.invariant.read clean slots is)
