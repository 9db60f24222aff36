use Rattle.std.proofs.Common.{◌≡◌, ◌-ℤ◌, arith, pos}
use Rattle.std.proofs.lemmas.Int.{ints}
use mir.Val.{to_z, of_z}
use mir.Syntax.{w64}
use Rattle.iso_issuer.proofs.Summed.{grown-ledger, grown-available}
use Rattle.iso_issuer.proofs.posting.change_of.Goals as goal

pub returns-in-Some-clause-ledger : goal.returns-in-Some-clause-ledger
returns-in-Some-clause-ledger c = λ pan.
    let f = c.in-Some.effect in
    let grown : to_z w64 (of_z w64 (to_z w64 (of_z w64 (pos c.args.after)) -ℤ to_z w64 (of_z w64 (pos c.args.before)))) ≡ pos c.args.after -ℤ pos c.args.before = omega (arith, ints, c.requires.before, c.requires.after) in
    rw (c.change_by.ensures.pan, c.change_by.ensures.ledger, grown, c.in-Some.is) (grown-ledger f pan c.args.before c.args.after)

pub returns-in-Some-clause-available : goal.returns-in-Some-clause-available
returns-in-Some-clause-available c = λ pan.
    let f = c.in-Some.effect in
    let grown : to_z w64 (of_z w64 (to_z w64 (of_z w64 (pos c.args.after)) -ℤ to_z w64 (of_z w64 (pos c.args.before)))) ≡ pos c.args.after -ℤ pos c.args.before = omega (arith, ints, c.requires.before, c.requires.after) in
    rw (c.change_by.ensures.pan, c.change_by.ensures.available, grown, c.in-Some.is) (grown-available f pan c.args.before c.args.after)
