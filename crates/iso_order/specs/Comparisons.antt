-- What compares alike is one.
use Rattle.std.specs.Prelude.{◌≡◌, ◌↔◌, true}
use Rattle.iso_order.specs.declared.act.Act.{Act}
use Rattle.iso_order.specs.declared.act.Money.{Money}
use Rattle.iso_order.specs.declared.key.TxKey.{TxKey}
use Rattle.iso_order.specs.Pan.{AccountNumber}
use Rattle.iso_order.specs.Key.{same_key}
use Rattle.iso_order.specs.Order.{Instruction, same_pan, same_money, same_act, same_order}

-- what it means that two things compare alike
pub record Comparisons : Type 0 where
  -- keys that compare alike are one, and only they,
  pub keys : (a b : TxKey) → (same_key a b ≡ true) ↔ (a ≡ b)
  -- and so are account numbers,
  pub pans : (a b : AccountNumber) → (same_pan a b ≡ true) ↔ (a ≡ b)
  -- amounts of a currency on an account,
  pub moneys : (a b : Money) → (same_money a b ≡ true) ↔ (a ≡ b)
  -- what is asked,
  pub acts : (a b : Act) → (same_act a b ≡ true) ↔ (a ≡ b)
  -- and orders
  pub orders : (a b : Instruction) → (same_order a b ≡ true) ↔ (a ≡ b)
