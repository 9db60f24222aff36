use Rattle.std.proofs.Common.{◌≡◌, ◌∙◌, ◌*◌, length, arith}
use Rattle.iso_diary.proofs.Pieces.{some_long, file_read, file_more, file_not}
use Rattle.iso_diary.proofs.scanning.scan_some.Goals as goal

pub returns-clause-within : goal.returns-clause-within
returns-clause-within g c =
    let old_long = some_long (128 * c.args.count) 8192 (omega (arith, c.requires.most)) in
    let long : length c.read_at.new.buf ≡ 128 * c.args.count = c.read_at.auto.buf ∙ old_long in
    omega (arith, c.in_ok-scanned.ensures.within, long)

pub returns-clause-read : goal.returns-clause-read
returns-clause-read g c = λ clean.
    let old_long = some_long (128 * c.args.count) 8192 (omega (arith, c.requires.most)) in
    let long : length c.read_at.new.buf ≡ 128 * c.args.count = c.read_at.auto.buf ∙ old_long in
    file_read c.slots.ensures c.args.count c.args.place c.in_ok-scanned.scanned c.read_at.new.buf (g.D.Disk.seen c.args.disk.now) long
    (c.in-Ok.ensures.read clean (omega (arith, old_long, c.requires.some))) (omega (arith, c.in_ok-scanned.ensures.within, long)) c.in_ok-scanned.ensures.read

pub returns-clause-not : goal.returns-clause-not
returns-clause-not g c = λ lt clean.
    let old_long = some_long (128 * c.args.count) 8192 (omega (arith, c.requires.most)) in
    let long : length c.read_at.new.buf ≡ 128 * c.args.count = c.read_at.auto.buf ∙ old_long in
    file_not c.slots.ensures c.args.count c.args.place c.in_ok-scanned.scanned c.read_at.new.buf (g.D.Disk.seen c.args.disk.now) long
    (c.in-Ok.ensures.read clean (omega (arith, old_long, c.requires.some))) (omega (arith, c.in_ok-scanned.ensures.within, long)) lt
    (c.in_ok-scanned.ensures.not (omega (arith, lt, long)))

pub returns-clause-more : goal.returns-clause-more
returns-clause-more g c = λ is clean.
    let old_long = some_long (128 * c.args.count) 8192 (omega (arith, c.requires.most)) in
    let long : length c.read_at.new.buf ≡ 128 * c.args.count = c.read_at.auto.buf ∙ old_long in
    file_more c.slots.ensures c.args.count c.args.place c.in_ok-scanned.scanned c.read_at.new.buf (g.D.Disk.seen c.args.disk.now) long
    (c.in-Ok.ensures.read clean (omega (arith, old_long, c.requires.some))) (omega (arith, c.in_ok-scanned.ensures.within, long)) c.args.notes.now.items c.scan_piece.new.notes.items
    (c.in_ok-scanned.ensures.more (omega (arith, is, long)))
