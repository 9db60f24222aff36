use Rattle.std.proofs.Common.{◌≡◌, ◌+◌, ◌-◌, ◌/◌, ◌%◌, ◌++◌, drop, length, ap, sym, ◌∙◌, arith, append_assoc}
use Rattle.iso_wire.specs.Decimal.{decimal}
use Rattle.iso_wire.proofs.Pairs.{pair, decimal-four, two-pairs}
use Rattle.iso_wire.proofs.decimal.write_decimal.Goals as goal

pub loop-at-preserved : goal.loop-at-preserved
loop-at-preserved c =
    let l = c.loop-at in
    let a = l.at - 4 in
    let one = c.write_pair.ensures in
    let two = c.write_pair-in-loop-at.ensures in
    let last = c.write_pair-in-loop-at.new.out in
    let e : a + 4 ≡ l.at = omega arith in
    let len : length last ≡ length l.out = omega arith in
    let four = two-pairs l.out c.write_pair.new.out last a _ _ _ _ one.written two.before two.written in
    let digits = decimal-four a l.rest in
    let ones = pair (l.rest % 10000 / 100) in
    let twos = pair (l.rest % 10000 % 100) in
    let back : decimal a (l.rest / 10000) ++ drop a last ≡ decimal (length last) c.args.v =
    ap (λ t. decimal a (l.rest / 10000) ++ t) four
    ∙ sym (append_assoc (decimal a (l.rest / 10000)) (ones ++ twos) (drop (a + 4) l.out))
    ∙ ap (λ t. t ++ drop (a + 4) l.out) (sym digits)
    ∙ ap (λ n. decimal n l.rest ++ drop n l.out) e
    ∙ l.invariant.written
    ∙ ap (λ n. decimal n c.args.v) (sym len) in
    record { within = omega arith; written = back }
