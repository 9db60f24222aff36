use Rattle.std.proofs.Common.{◌≡◌, arith, refl}
use Rattle.std.specs.Prelude.{◌+ℤ◌}
use Rattle.std.proofs.lemmas.Int.{ints}
use mir.Val.{to_z, of_z}
use mir.Syntax.{w64}
use Rattle.iso_issuer.proofs.balances.balance_with.Goals as goal

pub returns : goal.returns
returns c =
    let near = c.requires in
    let ledger : to_z w64 (of_z w64 (to_z w64 (of_z w64 c.args.balance.ledger) +ℤ to_z w64 (of_z w64 c.args.change.ledger))) ≡ c.args.balance.ledger +ℤ c.args.change.ledger = omega (arith, ints) in
    let available : to_z w64 (of_z w64 (to_z w64 (of_z w64 c.args.balance.available) +ℤ to_z w64 (of_z w64 c.args.change.available))) ≡ c.args.balance.available +ℤ c.args.change.available = omega (arith, ints) in
    rw (ledger, available) refl
