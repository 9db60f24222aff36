-- A host over the log of its orders.
use Rattle.std.specs.Prelude.{◌≡◌, ◌++◌, false, List, [], drop, length}
use Rattle.iso_order.specs.Order.{Instruction}
use Rattle.iso_issuer.specs.Laws.{books_after}
use Rattle.iso_durable.specs.Durable.{Durable}
use Rattle.iso_peers.specs.declared.durable_host.DurableHost.{DurableHost}

-- the host over a run: the accounts and the limit of its issuer, the orders that its log keeps, and those behind them,
-- which wait for the next `keep`
abbrev pub durable_of : {L : Type 0} → (L → List Instruction) → DurableHost L → Durable
durable_of synced h = record {
  accounts = h.host.accounts;
  limit = h.host.limit;
  synced = synced h.log;
  pending = drop h.kept h.host.orders;
}

-- the log is ready and keeps all its orders, and the journal begins with them
pub record IsInStep {L : Type 0} (is_ready : L → Type 0) (synced pending : L → List Instruction)
    (h : DurableHost L) : Type 0 where
  pub ready : is_ready h.log
  pub none : pending h.log ≡ []
  pub count : h.kept ≡ length (synced h.log)
  pub same : h.host.orders ≡ synced h.log ++ drop h.kept h.host.orders

-- a host in step with its log stays so, whatever orders enter its books, while the log isn't called
abbrev pub StaysInStep : {L : Type 0} → (L → Type 0) → (L → List Instruction)
    → (L → List Instruction) → DurableHost L → Type 0
StaysInStep is_ready synced pending h =
    (orders : List Instruction) → IsInStep is_ready synced pending h
    → IsInStep is_ready synced pending (record h { host = books_after h.host orders })

-- every order of the journal is kept, and the log never failed
pub record IsKept {L : Type 0} (h : DurableHost L) : Type 0 where
  pub sound : h.has_failed ≡ false
  pub count : h.kept ≡ length h.host.orders
