use Rattle.std.proofs.Common.{◌≡◌, ◌∙◌, ◌*◌, length, arith}
use Rattle.iso_journal.proofs.Pieces.{some_long, file_written, file_entered, file_not}
use Rattle.iso_journal.proofs.replaying.replay_some.Goals as goal

pub returns-clause-within : goal.returns-clause-within
returns-clause-within g c =
    let old_long = some_long (128 * c.args.count) 8192 (omega (arith, c.requires.most)) in
    let long : length c.read_at.new.buf ≡ 128 * c.args.count = c.read_at.auto.buf ∙ old_long in
    omega (arith, c.in_ok-replayed.ensures.within, long)

pub returns-clause-written : goal.returns-clause-written
returns-clause-written g c = λ clean.
    let old_long = some_long (128 * c.args.count) 8192 (omega (arith, c.requires.most)) in
    let long : length c.read_at.new.buf ≡ 128 * c.args.count = c.read_at.auto.buf ∙ old_long in
    file_written c.slots.ensures c.args.count c.args.place c.in_ok-replayed.replayed c.read_at.new.buf (g.D.Disk.seen c.args.disk.now) long
    (c.in-Ok.ensures.read clean (omega (arith, old_long, c.requires.some))) (omega (arith, c.in_ok-replayed.ensures.within, long)) c.args.issuer.now c.in_ok-replayed.ensures.written

pub returns-clause-not : goal.returns-clause-not
returns-clause-not g c = λ lt clean.
    let old_long = some_long (128 * c.args.count) 8192 (omega (arith, c.requires.most)) in
    let long : length c.read_at.new.buf ≡ 128 * c.args.count = c.read_at.auto.buf ∙ old_long in
    file_not c.slots.ensures c.args.count c.args.place c.in_ok-replayed.replayed c.read_at.new.buf (g.D.Disk.seen c.args.disk.now) long
    (c.in-Ok.ensures.read clean (omega (arith, old_long, c.requires.some))) (omega (arith, c.in_ok-replayed.ensures.within, long)) c.args.issuer.now lt
    (c.in_ok-replayed.ensures.not (omega (arith, lt, long)))

pub returns-clause-entered : goal.returns-clause-entered
returns-clause-entered g c = λ is clean.
    let old_long = some_long (128 * c.args.count) 8192 (omega (arith, c.requires.most)) in
    let long : length c.read_at.new.buf ≡ 128 * c.args.count = c.read_at.auto.buf ∙ old_long in
    file_entered c.slots.ensures c.args.count c.args.place c.in_ok-replayed.replayed c.read_at.new.buf (g.D.Disk.seen c.args.disk.now) long
    (c.in-Ok.ensures.read clean (omega (arith, old_long, c.requires.some))) (omega (arith, c.in_ok-replayed.ensures.within, long)) c.args.issuer.now c.replay_piece.new.issuer.orders
    (c.in_ok-replayed.ensures.entered (omega (arith, is, long)))

pub returns-clause-accounts : goal.returns-clause-accounts
returns-clause-accounts g c = λ is.
    let old_long = some_long (128 * c.args.count) 8192 (omega (arith, c.requires.most)) in
    let long : length c.read_at.new.buf ≡ 128 * c.args.count = c.read_at.auto.buf ∙ old_long in
    c.in_ok-replayed.ensures.accounts (omega (arith, is, long))

pub returns-clause-limit : goal.returns-clause-limit
returns-clause-limit g c = λ is.
    let old_long = some_long (128 * c.args.count) 8192 (omega (arith, c.requires.most)) in
    let long : length c.read_at.new.buf ≡ 128 * c.args.count = c.read_at.auto.buf ∙ old_long in
    c.in_ok-replayed.ensures.limit (omega (arith, is, long))
