-- A call of a host is such a run.
use Rattle.std.proofs.Common.{◌≡◌, ◌≤◌, ℕ, ◌+◌, Bool, true, false, refl, arith, ap, sym, ◌∙◌}
use Rattle.std.proofs.Common.{List, [], ◌∷◌, ◌++◌, length, take, append-nil}
use Rattle.std.specs.Prelude.{◌||◌, ◌==◌, min, Some, None, slice_get, if◌then◌else◌}
use Rattle.std.proofs.lemmas.Bool.Decides.{nat_tests}
use Rattle.std.proofs.lemmas.List.{take-append-le}
use Rattle.iso_order.specs.declared.key.TxKey.{TxKey}
use Rattle.iso_order.specs.Key.{same_key}
use Rattle.iso_order.specs.Order.{Instruction}
use Rattle.iso_issuer.specs.Journal.{is_entered}
use Rattle.iso_durable.specs.Durable.{Durable, entered, comes, come_all, syncs}
use Rattle.iso_hosts.specs.World.{World, Batch, Event, orders_in, seen_by, doubted}
use Rattle.iso_hosts.specs.World.{Receives, Sends, Arrives, Reads, Restarts}
use Rattle.iso_hosts.specs.World.{host_at, with_host, known_answer}
use Rattle.iso_hosts.specs.World.{decides, receives, to_send, left_behind, batch_of, sends}
use Rattle.iso_hosts.specs.World.{tells, after_event, after_events}
use Rattle.iso_hosts.specs.Laws.{syncing}
use Rattle.iso_hosts.proofs.Lists.{get-last}
use Rattle.iso_hosts.proofs.Alone.{IssuerLaws}
use Rattle.iso_hosts.proofs.Batches.{self_same, seen_more, same_batch_self}

-- ---- a start

pub starts_are_events : (w : World) (n seen : ℕ) → seen ≤ length w.kept
    → host_at (after_event w (Restarts n seen)) n
    ≡ record {
      accounts = w.accounts;
      limit = w.limit;
      synced = orders_in (take seen w.kept);
      pending = [];
    }
starts_are_events w n seen within =
    let here : min seen (length w.kept) ≡ seen = omega (arith, within) in
    rw (self_same n) (ap (λ (l : List Instruction). record {
      accounts = w.accounts;
      limit = w.limit;
      synced = l;
      pending = [];
    })
    (append-nil (orders_in (take (min seen (length w.kept)) w.kept))
    ∙ ap (λ (k : ℕ). orders_in (take k w.kept)) here))

-- ---- a host that has seen all sends its batch, which arrives, and reads it

-- what this comes to
abbrev synced : World → ℕ → World
synced w n =
    let h = w.hosts n in
    let d = to_send h.in_doubt h.behind in
    let sent = sends w n h in
    tells (record sent { kept = w.kept ++ batch_of n h ∷ [] }) n (sent.hosts n) d

-- all is synced, and nothing is pending
synced_so : (d : Durable) (orders pending : List Instruction)
    → orders ≡ entered d → pending ≡ []
    → record { accounts = d.accounts; limit = d.limit; synced = orders; pending = pending }
    ≡ syncs d
synced_so d orders pending same none =
    ap (λ (l : List Instruction). record {
      accounts = d.accounts;
      limit = d.limit;
      synced = l;
      pending = pending;
    }) same
    ∙ ap (λ (l : List Instruction). record {
      accounts = d.accounts;
      limit = d.limit;
      synced = entered d;
      pending = l;
    }) none

module _ (laws : IssuerLaws) (w : World) (n : ℕ) (all : (w.hosts n).seen ≡ length w.kept) where
  pub syncs_so : after_events (syncing w n []) w ≡ synced w n
  syncs_so =
      let b : Batch = batch_of n (w.hosts n) in
      let there : slice_get (w.sent ++ b ∷ []) (length w.sent) ≡ Some b = get-last w.sent b in
      let next : ((w.hosts n).seen == length w.kept) ≡ true = grind (arith, nat_tests, all) in
      let found : slice_get (w.kept ++ b ∷ []) (w.hosts n).seen ≡ Some b =
      ap (slice_get (w.kept ++ b ∷ [])) all ∙ get-last w.kept b in
      rw (there, next, self_same n, found, same_batch_self laws b) refl

  pub sync_succeeds :
      ((after_events (syncing w n []) w).kept ≡ w.kept ++ batch_of n (w.hosts n) ∷ [])
      × ((after_events (syncing w n []) w).told
      ≡ w.told ++ (to_send (w.hosts n).in_doubt (w.hosts n).behind).answers)
  sync_succeeds = (ap (λ (x : World). x.kept) syncs_so, ap (λ (x : World). x.told) syncs_so)

  -- where it was in doubt of nothing
  synced_all : (w.hosts n).in_doubt ≡ None
      → host_at (after_events (syncing w n []) w) n ≡ syncs (host_at w n)
  synced_all sure =
      let h = w.hosts n in
      let b : Batch = batch_of n h in
      let found : slice_get (w.kept ++ b ∷ []) h.seen ≡ Some b =
      ap (slice_get (w.kept ++ b ∷ [])) all ∙ get-last w.kept b in
      let now : orders_in (take (h.seen + 1) (w.kept ++ b ∷ [])) ≡ seen_by w h ++ b.orders =
      seen_more (w.kept ++ b ∷ []) h.seen b found
      ∙ ap (λ (l : List Batch). orders_in l ++ b.orders)
      (take-append-le h.seen w.kept (b ∷ []) (omega arith)) in
      let own : b.orders ≡ h.behind.orders = rw sure refl in
      let left : (left_behind h.in_doubt h.behind).orders ≡ [] = rw sure refl in
      let none : doubted h.in_doubt ≡ [] = rw sure refl in
      let seen : seen_by w h ++ doubted h.in_doubt ≡ seen_by w h =
      ap (λ (l : List Instruction). seen_by w h ++ l) none ∙ append-nil (seen_by w h) in
      let orders : orders_in (take (h.seen + 1) (w.kept ++ b ∷ [])) ++ [] ≡ entered (host_at w n) =
      append-nil (orders_in (take (h.seen + 1) (w.kept ++ b ∷ [])))
      ∙ now
      ∙ ap (λ (l : List Instruction). seen_by w h ++ l) own
      ∙ ap (λ (l : List Instruction). l ++ h.behind.orders) (sym seen) in
      ap (λ (x : World). host_at x n) syncs_so
      ∙ rw (self_same n)
      (synced_so (host_at w n) (orders_in (take (h.seen + 1) (w.kept ++ b ∷ [])) ++ [])
      (left_behind h.in_doubt h.behind).orders orders left)

-- ---- orders that come before

-- an order that comes leaves the rest as it was
pub record Received (w new : World) (n : ℕ) (o : Instruction) : Type 0 where
  pub sent : length new.sent ≡ length w.sent
  pub all : (new.hosts n).seen ≡ length new.kept
  pub sure : (new.hosts n).in_doubt ≡ None
  pub host : host_at new n ≡ comes (host_at w n) o

entered_more : (xs ys : List Instruction) (key : TxKey) → is_entered xs key ≡ true
    → is_entered (xs ++ ys) key ≡ true
entered_more [] ys key h = cc
entered_more (x ∷ xs) ys key h = by_test (same_key x.key key) h (entered_more xs ys key)
  where
    by_test : (b : Bool) → (b || is_entered xs key) ≡ true
        → (is_entered xs key ≡ true → is_entered (xs ++ ys) key ≡ true)
        → (b || is_entered (xs ++ ys) key) ≡ true
    by_test true e rest = refl
    by_test false e rest = rest e

pub received : (w : World) (n : ℕ) (o : Instruction) → (w.hosts n).seen ≡ length w.kept
    → (w.hosts n).in_doubt ≡ None → Received w (receives w n (w.hosts n) o) n o
received w n o all sure = by_test (is_entered (seen_by w (w.hosts n)) o.key) refl
  where
    known_same : is_entered (seen_by w (w.hosts n)) o.key ≡ true
        → host_at w n ≡ comes (host_at w n) o
    known_same k =
        let in_front =
        entered_more (seen_by w (w.hosts n)) (doubted (w.hosts n).in_doubt) o.key k in
        let known : is_entered (entered (host_at w n)) o.key ≡ true =
        entered_more (seen_by w (w.hosts n) ++ doubted (w.hosts n).in_doubt)
        (w.hosts n).behind.orders o.key in_front in
        rw known refl

    by_test : (known : Bool) → is_entered (seen_by w (w.hosts n)) o.key ≡ known
        → Received w (if known
        then record w { told = w.told ++ known_answer w (w.hosts n) o ∷ [] }
        else record w { hosts = with_host w.hosts n (decides w (w.hosts n) o) }) n o
    by_test true k = record { sent = refl; all = all; sure = sure; host = known_same k }
    by_test false k = record {
      sent = refl;
      all = rw (self_same n) all;
      sure = rw (self_same n) sure;
      host = rw (self_same n) refl;
    }

pub same_syncing : (w new : World) (n : ℕ) (os : List Instruction)
    → length new.sent ≡ length w.sent → syncing new n os ≡ syncing w n os
same_syncing w new n [] h = ap (λ (k : ℕ). Sends n ∷ Arrives k ∷ Reads n ∷ []) h
same_syncing w new n (o ∷ os) h =
    ap (λ (es : List Event). Receives n o ∷ es) (same_syncing w new n os h)

pub calls_are_events : (laws : IssuerLaws) (w : World) (n : ℕ) (orders : List Instruction)
    → (w.hosts n).seen ≡ length w.kept → (w.hosts n).in_doubt ≡ None
    → host_at (after_events (syncing w n orders) w) n ≡ syncs (come_all (host_at w n) orders)
calls_are_events laws w n [] all sure = synced_all laws w n all sure
calls_are_events laws w n (o ∷ os) all sure =
    let new = receives w n (w.hosts n) o in
    let step : Received w new n o = received w n o all sure in
    ap (λ (es : List Event). host_at (after_events es new) n)
    (sym (same_syncing w new n os step.sent))
    ∙ calls_are_events laws new n os step.all step.sure
    ∙ ap (λ (d : Durable). syncs (come_all d os)) step.host
