-- Keys that compare alike.
use Rattle.std.proofs.Common.{◌≡◌, true, arith}
use Rattle.std.proofs.lemmas.Grind.{common_steps}
use Rattle.iso_order.specs.declared.key.TxKey.{TxKey}
use Rattle.iso_order.specs.Key.{same_key}

pub same_key_is : (a b : TxKey) → same_key a b ≡ true → a ≡ b
same_key_is a b h = grind (arith, common_steps)

pub same_key_self : (a : TxKey) → same_key a a ≡ true
same_key_self a = grind (arith, common_steps)
