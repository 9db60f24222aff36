-- The response codes of verdicts have two digits.
use Rattle.std.proofs.Common.{◌≤◌, Bool, true, false, List, [], ◌∷◌, ◌++◌, arith, if◌then◌else◌}
use Rattle.iso_wire.specs.Contents.{Contents}
use Rattle.iso_order.specs.declared.verdict.Verdict.{Verdict}
use Rattle.iso_order.specs.Verdict.{first_of, answered_lines, network_lines, key_lines, reversal_lines, completion_lines, account_lines, act_lines, amount_lines, credit_verdict, verdict, IfReply}

abbrev IsSmall : Verdict → Type 0
IsSmall v = IfReply v (λ code. code ≤ 99)

abbrev AreSmall : List (Bool × Verdict) → Type 0
AreSmall [] = Unit {0}
AreSmall (line ∷ lines) = IsSmall line.1 × AreSmall lines

AreSmall-append : (a b : List (Bool × Verdict)) → AreSmall a → AreSmall b → AreSmall (a ++ b)
AreSmall-append [] b x y = y
AreSmall-append (line ∷ a) b x y = (x.0, AreSmall-append a b x.1 y)

primary_by : (t : Bool) (v other : Verdict) → IsSmall v → IsSmall other → IsSmall (if t then v else other)
primary_by true v other x y = x
primary_by false v other x y = y

first_small : (lines : List (Bool × Verdict)) (last : Verdict) → AreSmall lines → IsSmall last → IsSmall (first_of lines last)
first_small [] last x y = y
first_small (line ∷ lines) last x y = primary_by line.0 line.1 (first_of lines last) x.0 (first_small lines last x.1 y)

pub verdict_small : (m : Contents) → IfReply (verdict m) (λ code. code ≤ 99)
unfolding verdict
verdict_small m =
    let two : 12 ≤ 99 = omega arith in
    let shape : 30 ≤ 99 = omega arith in
    let amount : 13 ≤ 99 = omega arith in
    let good : 0 ≤ 99 = omega arith in
    let a1 : AreSmall (answered_lines m) = (tt, (two, tt)) in
    let a2 : AreSmall (network_lines m) = (shape, (good, tt)) in
    let a3 : AreSmall (key_lines m) = (two, (shape, tt)) in
    let a4 : AreSmall (reversal_lines m) = (shape, (shape, (two, (two, (tt, tt))))) in
    let a5 : AreSmall (completion_lines m) = (shape, (two, (two, tt))) in
    let a6 : AreSmall (account_lines m) = (shape, tt) in
    let a7 : AreSmall (act_lines m) = (two, (two, (tt, tt))) in
    let a8 : AreSmall (amount_lines m) = (shape, (amount, (tt, tt))) in
    let b2 : AreSmall (answered_lines m ++ network_lines m) = AreSmall-append (answered_lines m) (network_lines m) a1 a2 in
    let b3 : AreSmall (answered_lines m ++ network_lines m ++ key_lines m) = AreSmall-append (answered_lines m ++ network_lines m) (key_lines m) b2 a3 in
    let b4 : AreSmall (answered_lines m ++ network_lines m ++ key_lines m ++ reversal_lines m) = AreSmall-append (answered_lines m ++ network_lines m ++ key_lines m) (reversal_lines m) b3 a4 in
    let b5 : AreSmall (answered_lines m ++ network_lines m ++ key_lines m ++ reversal_lines m ++ completion_lines m) = AreSmall-append (answered_lines m ++ network_lines m ++ key_lines m ++ reversal_lines m) (completion_lines m) b4 a5 in
    let b6 : AreSmall (answered_lines m ++ network_lines m ++ key_lines m ++ reversal_lines m ++ completion_lines m ++ account_lines m) = AreSmall-append (answered_lines m ++ network_lines m ++ key_lines m ++ reversal_lines m ++ completion_lines m) (account_lines m) b5 a6 in
    let b7 : AreSmall (answered_lines m ++ network_lines m ++ key_lines m ++ reversal_lines m ++ completion_lines m ++ account_lines m ++ act_lines m) = AreSmall-append (answered_lines m ++ network_lines m ++ key_lines m ++ reversal_lines m ++ completion_lines m ++ account_lines m) (act_lines m) b6 a7 in
    let b8 : AreSmall (answered_lines m ++ network_lines m ++ key_lines m ++ reversal_lines m ++ completion_lines m ++ account_lines m ++ act_lines m ++ amount_lines m) = AreSmall-append (answered_lines m ++ network_lines m ++ key_lines m ++ reversal_lines m ++ completion_lines m ++ account_lines m ++ act_lines m) (amount_lines m) b7 a8 in
    first_small (answered_lines m ++ network_lines m ++ key_lines m ++ reversal_lines m ++ completion_lines m ++ account_lines m ++ act_lines m ++ amount_lines m) (credit_verdict m) b8 tt
