-- What holds of the orders that a host can start on.
use Rattle.std.specs.Prelude.{◌≡◌, ℕ, false, List, ◌∷◌, ◌++◌}
use Rattle.iso_order.specs.Order.{Instruction}
use Rattle.iso_issuer.specs.Journal.{is_entered}
use Rattle.iso_durable.specs.World.{IsStart}

-- what holds of the first of them, and of each
pub record StartLaws : Type 0 where
  -- it can start on the first of them alone, however many these are
  pub front : (limit : ℕ) (orders more : List Instruction) → IsStart limit (orders ++ more)
      → IsStart limit orders
  -- each of them has a key that none before it has
  pub new : (limit : ℕ) (before after : List Instruction) (o : Instruction)
      → IsStart limit (before ++ o ∷ after) → is_entered before o.key ≡ false
