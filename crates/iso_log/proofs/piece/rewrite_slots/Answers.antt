use Rattle.std.proofs.Common.{◌≡◌, ◌≤◌, ◌*◌, ℕ, List, length, arith, subst, inr}
use Rattle.sqlite_disk.specs.Disk.{Torn, Mixed}
use Rattle.iso_log.proofs.Pieces.{some_long, same_again}
use Rattle.iso_log.proofs.piece.rewrite_slots.Goals as goal

pub returns-in-Ok-write_at-clause-same : goal.returns-in-Ok-write_at-clause-same
returns-in-Ok-write_at-clause-same g c = λ clean.
    let most : 128 * c.args.count ≤ 8192 = omega (arith, c.requires.most) in
    let old_long = some_long (128 * c.args.count) 8192 most in
    let seen = c.in-Ok.ensures.seen in
    let e = c.in-Ok-write_at.ensures in
    let holds = c.in-Ok.ensures.read (e.clean clean) (omega (arith, old_long, c.requires.some)) in
    let again = e.written (omega (arith, c.read_at.auto.buf, old_long, c.requires.some)) in
    same_again (128 * c.args.place) c.read_at.new.buf (g.D.Disk.seen c.args.disk.now) (g.D.Disk.seen c.write_at.new.self) holds
    (subst (λ (f : List ℕ). Torn (128 * c.args.place) (length c.read_at.new.buf) f (g.D.Disk.seen c.write_at.new.self)) seen e.others)
    (λ i lt. inr (again.each i lt))

pub returns-in-Ok-write_at-clause-left : goal.returns-in-Ok-write_at-clause-left
returns-in-Ok-write_at-clause-left g c = λ clean only kept here.
    let most : 128 * c.args.count ≤ 8192 = omega (arith, c.requires.most) in
    let old_long = some_long (128 * c.args.count) 8192 most in
    let seen = g.D.Disk.seen c.args.disk.now in
    let e = c.in-Ok-write_at.ensures in
    let holds = c.in-Ok.ensures.read (e.clean clean) (omega (arith, old_long, c.requires.some)) in
    let from = e.mixed c.in_ok-test_mixing.ensures.mixes (omega (arith, c.read_at.auto.buf, old_long, c.requires.small)) kept here in
    let was : from.0 ≡ seen = only from.0 (c.in-Ok.ensures.crash from.0 from.1) in
    let mixed : Mixed (128 * c.args.place) c.read_at.new.buf seen kept = subst (λ (f : List ℕ). Mixed (128 * c.args.place) c.read_at.new.buf f kept) was from.2 in
    same_again (128 * c.args.place) c.read_at.new.buf seen kept holds mixed.torn (λ i lt. mixed.each i lt (omega (arith, holds.within, lt)))

pub returns-in-Err-clause-left : goal.returns-in-Err-clause-left
returns-in-Err-clause-left g c = λ clean only kept here.
    let most : 128 * c.args.count ≤ 8192 = omega (arith, c.requires.most) in
    let old_long = some_long (128 * c.args.count) 8192 most in
    let seen = g.D.Disk.seen c.args.disk.now in
    let e = c.in-Err.ensures in
    let holds = c.in-Ok.ensures.read (e.clean clean) (omega (arith, old_long, c.requires.some)) in
    let from = e.mixed c.in_ok-test_mixing.ensures.mixes (omega (arith, c.read_at.auto.buf, old_long, c.requires.small)) kept here in
    let was : from.0 ≡ seen = only from.0 (c.in-Ok.ensures.crash from.0 from.1) in
    let mixed : Mixed (128 * c.args.place) c.read_at.new.buf seen kept = subst (λ (f : List ℕ). Mixed (128 * c.args.place) c.read_at.new.buf f kept) was from.2 in
    same_again (128 * c.args.place) c.read_at.new.buf seen kept holds mixed.torn (λ i lt. mixed.each i lt (omega (arith, holds.within, lt)))
