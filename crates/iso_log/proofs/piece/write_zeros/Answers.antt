use Rattle.std.proofs.Common.{◌≤◌, ◌*◌, ℕ, List, arith, subst}
use Rattle.sqlite_disk.specs.Disk.{Holds, Mixed}
use Rattle.iso_log.proofs.Pieces.{some_zeros, some_long}
use Rattle.iso_log.proofs.piece.write_zeros.Goals as goal

pub returns-in-Ok-clause-written : goal.returns-in-Ok-clause-written
returns-in-Ok-clause-written g c =
    let most : 128 * c.args.count ≤ 8192 = omega (arith, c.requires.most) in
    subst (λ (l : List ℕ). Holds (g.D.Disk.seen c.write_at.new.self) (128 * c.args.place) l) (some_zeros (128 * c.args.count) 8192 most)
    (c.in-Ok.ensures.written (omega (arith, some_long (128 * c.args.count) 8192 most, c.requires.some)))

pub returns-in-Ok-clause-mixed : goal.returns-in-Ok-clause-mixed
returns-in-Ok-clause-mixed g c = λ mixing kept here.
    let most : 128 * c.args.count ≤ 8192 = omega (arith, c.requires.most) in
    let from = c.in-Ok.ensures.mixed mixing (omega (arith, some_long (128 * c.args.count) 8192 most, c.requires.small)) kept here in
    (from.0, from.1, subst (λ (l : List ℕ). Mixed (128 * c.args.place) l from.0 kept) (some_zeros (128 * c.args.count) 8192 most) from.2)

pub returns-in-Err-clause-mixed : goal.returns-in-Err-clause-mixed
returns-in-Err-clause-mixed g c = λ mixing kept here.
    let most : 128 * c.args.count ≤ 8192 = omega (arith, c.requires.most) in
    let from = c.in-Err.ensures.mixed mixing (omega (arith, some_long (128 * c.args.count) 8192 most, c.requires.small)) kept here in
    (from.0, from.1, subst (λ (l : List ℕ). Mixed (128 * c.args.place) l from.0 kept) (some_zeros (128 * c.args.count) 8192 most) from.2)
