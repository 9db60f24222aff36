use Rattle.std.proofs.Common.{◌≡◌, ◌+◌, ◌/◌, ◌%◌, [], drop, length, ap, sym, ◌∙◌, arith}
use Rattle.std.proofs.Math.Seq.{drop-length}
use Rattle.std.proofs.lemmas.List.{drop-set}
use Rattle.iso_wire.proofs.decimal.write_short.Goals as goal

pub returns-in_default : goal.returns-in_default
returns-in_default c =
    let out = c.args.out.now in
    let v = c.args.v in
    let three : length out ≡ 3 = omega arith in
    let a : v / 10 % 100 / 10 ≡ v / 10 / 10 % 10 = omega arith in
    let b : v / 10 % 100 % 10 ≡ v / 10 % 10 = omega arith in
    let behind : drop 3 out ≡ [] = ap (λ n. drop n out) (sym three) ∙ drop-length out in
    let last = drop-set out 2 (48 + v % 10) (omega arith) in
    rw (c.write_pair-in_default.ensures.written, last, behind, three, a, b)
