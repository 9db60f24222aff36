-- Keys and account numbers that compare alike.
use Rattle.std.proofs.Common.{◌≡◌, true, arith}
use Rattle.std.proofs.lemmas.Grind.{common_steps}
use Rattle.iso_order.specs.declared.key.TxKey.{TxKey}
use Rattle.iso_order.specs.Pan.{AccountNumber}
use Rattle.iso_order.specs.Key.{same_key}
use Rattle.iso_order.specs.Order.{same_pan}

pub same_key_is : (a b : TxKey) → same_key a b ≡ true → a ≡ b
same_key_is a b h = grind (arith, common_steps)

pub same_key_self : (a : TxKey) → same_key a a ≡ true
same_key_self a = grind (arith, common_steps)

pub same_key_sym : (a b : TxKey) → same_key a b ≡ same_key b a
same_key_sym a b = grind (arith, common_steps)

pub same_pan_is : (a b : AccountNumber) → same_pan a b ≡ true → a ≡ b
same_pan_is a b h = grind (arith, common_steps)

pub same_pan_self : (a : AccountNumber) → same_pan a a ≡ true
same_pan_self a = grind (arith, common_steps)

pub same_pan_sym : (a b : AccountNumber) → same_pan a b ≡ same_pan b a
same_pan_sym a b = grind (arith, common_steps)
