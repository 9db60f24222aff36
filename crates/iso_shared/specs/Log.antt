-- A log of batches in a store that others write to as well.
use Rattle.std.specs.Prelude.{◌≡◌, ◌≤◌, ◌⊎◌, ℕ, ◌+◌, nat_le, Bool, List, ◌++◌, take, drop, length}
use Rattle.iso_order.specs.Order.{Instruction}
use Rattle.iso_hosts.specs.World.{orders_in}
use Rattle.iso_shared.specs.declared.log.SharedLog.{SharedLog}
use Rattle.iso_shared.specs.Batch.{BatchContents, batch_bytes}
use Rattle.iso_shared.specs.Kept.{orders_of, batches_of, orders_kept}

-- the batch that is being made: for the place behind those that are known
abbrev pub made : {S P : Type 0} → SharedLog S P → BatchContents
made log = record {
  heading = record { place = log.seen + 1; writer = log.writer };
  rows = log.rows.items;
}

-- that batch as bytes
abbrev pub made_bytes : {S P : Type 0} → SharedLog S P → List ℕ
made_bytes log = batch_bytes (made log)

-- no order more goes into it
abbrev pub is_full : {S P : Type 0} → SharedLog S P → Bool
is_full log = nat_le 8191 (length log.rows.items)

module _ {S P : Type 0} (kept : S → List (List ℕ)) (log : SharedLog S P) where
  -- the orders of the batches that were known at the last sync
  abbrev pub synced_orders : List Instruction
  synced_orders = orders_kept (kept log.store) log.synced

  -- those of the batches that are known
  abbrev pub known_orders : List Instruction
  known_orders = orders_kept (kept log.store) log.seen

  -- those behind the last sync: of its full batches that stand, and of the batch that is being made
  abbrev pub pending_orders : List Instruction
  pending_orders =
      orders_in (batches_of (drop log.synced (take log.seen (kept log.store))))
      ++ orders_of log.rows.items

  -- what a start finds if nobody else writes: what is known, with the batch that is being made or without it
  abbrev pub MayLeave : List Instruction → Type 0
  MayLeave orders =
      (orders ≡ known_orders) ⊎ (orders ≡ known_orders ++ orders_of log.rows.items)

-- each batch that it knows is kept
pub record IsReady {S P : Type 0} (kept : S → List (List ℕ)) (log : SharedLog S P) : Type 0 where
  pub known : log.seen ≤ length (kept log.store)
  pub behind : log.synced ≤ log.seen
