use Rattle.std.proofs.Common.{◌≡◌, ◌∙◌, ◌≤◌, ◌*◌, length, arith}
use Rattle.iso_log.proofs.Pieces.{some_long, piece_first}
use Rattle.iso_log.proofs.piece.whole_until.Goals as goal

pub returns-clause-first : goal.returns-clause-first
returns-clause-first g c = λ clean.
    let most : 128 * c.args.count ≤ 8192 = omega (arith, c.requires.most) in
    let old_long = some_long (128 * c.args.count) 8192 most in
    let long : length c.read_at.new.buf ≡ 128 * c.args.count = c.read_at.auto.buf ∙ old_long in
    piece_first c.args.place c.args.count c.whole_in.result c.read_at.new.buf (g.D.Disk.seen c.args.disk.now) long
    (c.in-Ok.ensures.read clean (omega (arith, old_long, c.requires.some))) c.whole_in.ensures
