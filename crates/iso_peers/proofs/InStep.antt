-- A host and its log, while orders come and are kept.
use Rattle.std.proofs.Common.{◌≡◌, ◌∙◌, ◌++◌, ℕ, refl, sym, ap, subst, List, [], ◌∷◌, length, take, drop, append_assoc}
use Rattle.std.proofs.Math.Seq.{drop-append_seam}
use Rattle.iso_order.specs.Order.{Instruction}
use Rattle.iso_issuer.specs.Books.{Books}
use Rattle.iso_issuer.specs.Journal.{firsts}
use Rattle.iso_issuer.specs.Laws.{books_after, FirstsGoOn}
use Rattle.iso_durable.specs.Durable.{Durable, books_of, comes, come_all, entered}
use Rattle.iso_durable.specs.World.{IsStart, OrdersEnter}
use Rattle.iso_peers.specs.declared.durable_host.DurableHost.{DurableHost}
use Rattle.iso_peers.specs.Host.{durable_of, IsInStep}

-- ---- orders that come

-- orders behind others enter the books as all of them
pub after_more : FirstsGoOn → (b : Books) (xs ys : List Instruction) → books_after (books_after b xs) ys ≡ books_after b (xs ++ ys)
after_more law b xs ys =
    ap (λ (l : List Instruction). record b { orders = l }) (law b.limit (b.orders ++ xs) ys ∙ ap (λ (l : List Instruction). take b.limit (firsts l)) (append_assoc b.orders xs ys))

synced_stays : (d : Durable) (os : List Instruction) → (come_all d os).synced ≡ d.synced
synced_stays d [] = refl
synced_stays d (o ∷ os) = synced_stays (comes d o) os

-- a host over a run, by its books, what its log keeps, and how many those are
abbrev pub durable : Books → List Instruction → ℕ → Durable
durable b synced kept = record { accounts = b.accounts; limit = b.limit; synced = synced; pending = drop kept b.orders }

module _ (law : OrdersEnter) (old new : Books) (synced : List Instruction) (kept : ℕ) (os : List Instruction)
    (count : kept ≡ length synced) (same : old.orders ≡ synced ++ drop kept old.orders) (start : IsStart old.limit old.orders) (enters : new ≡ books_after old os) where
  abbrev came : Durable
  came = come_all (durable old synced kept) os

  came_books : books_of came ≡ new
  came_books =
      law (durable old synced kept) os (subst (IsStart old.limit) same start)
      ∙ ap (λ (l : List Instruction). books_after (record old { orders = l }) os) (sym same) ∙ sym enters

  -- the orders that enter the books come to the host
  pub come_by : durable new synced kept ≡ come_all (durable old synced kept) os
  come_by =
      let first : came.synced ≡ synced = synced_stays (durable old synced kept) os in
      let rest : drop kept (entered came) ≡ came.pending =
      ap (λ (n : ℕ). drop n (entered came)) (count ∙ ap length (sym first)) ∙ drop-append_seam came.synced came.pending in
      subst (λ (b : Books). durable b synced kept ≡ came) came_books (
      ap (λ (l : List Instruction). record { accounts = came.accounts; limit = came.limit; synced = l; pending = drop kept (entered came) }) (sym first)
      ∙ ap (λ (l : List Instruction). record { accounts = came.accounts; limit = came.limit; synced = came.synced; pending = l }) rest
      )

  -- and the journal still begins with those of the log
  pub still_same : new.orders ≡ synced ++ drop kept new.orders
  still_same = sym (ap entered come_by ∙ ap (λ (b : Books). b.orders) came_books)

-- ---- orders that are kept

-- ---- a host

-- its journal goes on by orders, and its log stays as it is
pub stays_in_step : {L : Type 0} (is_ready : L → Type 0) (synced pending : L → List Instruction) (old : DurableHost L) (new : Books) → OrdersEnter
    → IsStart old.host.limit old.host.orders → ((orders : List Instruction) × (new ≡ books_after old.host orders)) → IsInStep is_ready synced pending old
    → IsInStep is_ready synced pending (record old { host = new })
stays_in_step is_ready synced pending old new law start enters is = record {
  ready = is.ready;
  none = is.none;
  count = is.count;
  same = still_same law old.host new (synced old.log) old.kept enters.0 is.count is.same start enters.1;
}

-- the orders of its journal that its log hasn't come to it
pub orders_come : {L : Type 0} (is_ready : L → Type 0) (synced pending : L → List Instruction) (old : DurableHost L) (new : Books) → OrdersEnter
    → IsStart old.host.limit old.host.orders → IsInStep is_ready synced pending old → (orders : List Instruction) → new ≡ books_after old.host orders
    → durable_of synced (record old { host = new }) ≡ come_all (durable_of synced old) orders
orders_come is_ready synced pending old new law start is orders enters = come_by law old.host new (synced old.log) old.kept orders is.count is.same start enters
