-- What the calls of a log do to its orders.
use Rattle.std.proofs.Common.{◌≡◌, ◌∙◌, ◌⊎◌, inl, inr, ◌≤◌, ℕ, zero, suc, ◌+◌, Bool, true, false, List, [], ◌∷◌, ◌++◌, length, take, drop, append_assoc, append-nil, length-append, refl, sym, ap, subst, arith}
use Rattle.std.specs.Prelude.{Some, slice_get, MatchBool}
use Rattle.std.proofs.lemmas.List.{length-take-le, take-append-le, drop-append-le, take_more, map-append}
use Rattle.std.proofs.lemmas.Option.{slice_get_within, get_or_from_slice_get}
use Rattle.iso_order.specs.Order.{Instruction}
use Rattle.iso_record.specs.declared.row.Row.{Row}
use Rattle.iso_durable.specs.Front.{LeavesFront}
use Rattle.iso_hosts.specs.World.{Batch, orders_in}
use Rattle.iso_shared.specs.declared.log.SharedLog.{SharedLog}
use Rattle.iso_shared.specs.Batch.{BatchContents, batch_bytes, is_filed, BatchesComeBack}
use Rattle.iso_shared.specs.Store.{Grows}
use Rattle.iso_shared.specs.Kept.{orders_of, seen_as, batch_or_nothing, batch_of, batches_of, orders_kept}
use Rattle.iso_shared.specs.Log.{made, made_bytes, is_full, synced_orders, known_orders, pending_orders, MayLeave, IsReady}
use Rattle.iso_shared.specs.Steps.{Sends, Holds, Stays, Adds, FlushesBy, Flushes}
use Rattle.iso_shared.specs.Fronts.{orders_of_both, known_is, front, since}

-- the bytes of a batch that can be written are that batch
pub filed_is : BatchesComeBack → (b : BatchContents) → is_filed b ≡ true → batch_of (batch_bytes b) ≡ seen_as b
filed_is back b is = ap batch_or_nothing (back b is)

one_batch : (back : BatchesComeBack) (b : BatchContents) → is_filed b ≡ true → orders_in (batches_of (batch_bytes b ∷ [])) ≡ orders_of b.rows
one_batch back b is = append-nil (batch_of (batch_bytes b)).orders ∙ ap (λ (x : Batch). x.orders) (filed_is back b is)

-- a front stays where a list grows
pub front_stays : (n : ℕ) (old new : List (List ℕ)) → Grows old new → n ≤ length old → take n new ≡ take n old
front_stays n old new grows le = ap (take n) grows.1 ∙ take-append-le n old grows.0 le

pub still_within : (n : ℕ) (old new : List (List ℕ)) → Grows old new → n ≤ length old → n ≤ length new
still_within n old new grows le = omega (arith, le, length-append old grows.0, ap length grows.1)

-- one more
pub front_more : (n : ℕ) (xs : List (List ℕ)) (x : List ℕ) → slice_get xs n ≡ Some x → take (n + 1) xs ≡ take n xs ++ x ∷ []
front_more n xs x e =
    take_more xs n [] (slice_get_within xs n x e) ∙ ap (λ (y : List ℕ). take n xs ++ y ∷ []) (get_or_from_slice_get xs n x [] e)

module _ {S P : Type 0} (kept sent : S → List (List ℕ)) (old new : SharedLog S P) where
  abbrev was : List (List ℕ)
  was = kept old.store

  abbrev now : List (List ℕ)
  now = kept new.store

  -- ---- where nothing was sent

  pub record Same : Type 0 where
    pub grows : Grows (kept old.store) (kept new.store)
    pub seen : new.seen ≡ old.seen

  known_same : IsReady kept old → Same → known_orders kept new ≡ known_orders kept old
  known_same is same =
      ap (λ n. orders_kept now n) same.seen
      ∙ ap (λ (l : List (List ℕ)). orders_in (batches_of l)) (front_stays old.seen was now same.grows is.known)

  synced_same : IsReady kept old → Grows (kept old.store) (kept new.store) → new.synced ≡ old.synced → synced_orders kept new ≡ synced_orders kept old
  synced_same is grows synced =
      ap (λ n. orders_kept now n) synced
      ∙ ap (λ (l : List (List ℕ)). orders_in (batches_of l)) (front_stays old.synced was now grows (omega (arith, is.known, is.behind)))

  since_same : IsReady kept old → Same → new.synced ≡ old.synced → since kept new ≡ since kept old
  since_same is same synced =
      ap (λ n. orders_in (batches_of (drop n (take new.seen now)))) synced
      ∙ ap (λ n. orders_in (batches_of (drop old.synced (take n now)))) same.seen
      ∙ ap (λ (l : List (List ℕ)). orders_in (batches_of (drop old.synced l))) (front_stays old.seen was now same.grows is.known)

  ready_same : IsReady kept old → Same → new.synced ≡ old.synced → IsReady kept new
  ready_same is same synced = record {
    known = omega (arith, same.seen, still_within old.seen was now same.grows is.known);
    behind = omega (arith, same.seen, synced, is.behind);
  }

  holds_same : (left : List Row) → Holds kept sent old new left → Same
  holds_same left holds = record { grows = ([], ap kept holds.store ∙ sym (append-nil was)); seen = holds.seen }

  stays_same : Stays kept sent old new → Same
  stays_same stays = record { grows = stays.grows; seen = stays.seen }

  -- ---- where the batch was sent

  module _ (back : BatchesComeBack) (left : List Row) (sends : Sends kept sent old new left) (is : IsReady kept old) where
    fronts_more : take new.seen now ≡ take old.seen was ++ made_bytes old ∷ []
    fronts_more =
        ap (λ n. take n now) sends.seen ∙ front_more old.seen now (made_bytes old) sends.stands
        ∙ ap (λ (l : List (List ℕ)). l ++ made_bytes old ∷ []) (front_stays old.seen was now sends.grows is.known)

    known_sent : known_orders kept new ≡ known_orders kept old ++ orders_of old.rows.items
    known_sent =
        ap (λ (l : List (List ℕ)). orders_in (batches_of l)) fronts_more
        ∙ orders_of_both (take old.seen was) (made_bytes old ∷ [])
        ∙ ap (λ (l : List Instruction). known_orders kept old ++ l) (one_batch back (made old) sends.filed)

    since_sent : new.synced ≡ old.synced → since kept new ≡ since kept old ++ orders_of old.rows.items
    since_sent synced =
        ap (λ n. orders_in (batches_of (drop n (take new.seen now)))) synced
        ∙ ap (λ (l : List (List ℕ)). orders_in (batches_of (drop old.synced l))) fronts_more
        ∙ ap (λ (l : List (List ℕ)). orders_in (batches_of l))
        (drop-append-le old.synced (take old.seen was) (made_bytes old ∷ []) (omega (arith, is.behind, length-take-le old.seen was is.known)))
        ∙ orders_of_both (drop old.synced (take old.seen was)) (made_bytes old ∷ [])
        ∙ ap (λ (l : List Instruction). since kept old ++ l) (one_batch back (made old) sends.filed)

    seen_kept : new.seen ≤ length now
    seen_kept = omega (arith, sends.seen, slice_get_within now old.seen (made_bytes old) sends.stands)

  -- ---- a row is added

  -- it joins the batch, or begins the next one where that is full
  abbrev pub Joins : Bool → Row → Type 0
  Joins full row = MatchBool full (Sends kept sent old new (row ∷ [])) (Holds kept sent old new (old.rows.items ++ row ∷ []))

  one_more : (row : Row) (rows : List Row) → orders_of (rows ++ row ∷ []) ≡ orders_of rows ++ row.order ∷ []
  one_more row rows = map-append (λ (r : Row). r.order) rows (row ∷ [])

  module _ (back : BatchesComeBack) (row : Row) (is : IsReady kept old) where
    adds_ready_by : (full : Bool) → Joins full row → new.synced ≡ old.synced → IsReady kept new
    adds_ready_by true sends synced = record {
      known = seen_kept back (row ∷ []) sends is;
      behind = omega (arith, sends.seen, synced, is.behind);
    }
    adds_ready_by false holds synced = ready_same is (holds_same _ holds) synced

    pub adds_ready : Adds kept sent old new row → IsReady kept new
    adds_ready adds = adds_ready_by (is_full old) adds.steps adds.synced

    adds_grow_by : (full : Bool) → Joins full row → Grows (kept old.store) (kept new.store)
    adds_grow_by true sends = sends.grows
    adds_grow_by false holds = (holds_same _ holds).grows

    pub adds_synced : Adds kept sent old new row → synced_orders kept new ≡ synced_orders kept old
    adds_synced adds = synced_same is (adds_grow_by (is_full old) adds.steps) adds.synced

    adds_pending_by : (full : Bool) → Joins full row → new.synced ≡ old.synced → pending_orders kept new ≡ pending_orders kept old ++ row.order ∷ []
    adds_pending_by true sends synced =
        ap (λ (l : List Instruction). l ++ orders_of new.rows.items) (since_sent back (row ∷ []) sends is synced)
        ∙ ap (λ (l : List Row). (since kept old ++ orders_of old.rows.items) ++ orders_of l) sends.rows
    adds_pending_by false holds synced =
        ap (λ (l : List Instruction). l ++ orders_of new.rows.items) (since_same is (holds_same _ holds) synced)
        ∙ ap (λ (l : List Row). since kept old ++ orders_of l) holds.rows
        ∙ ap (λ (l : List Instruction). since kept old ++ l) (one_more row old.rows.items)
        ∙ sym (append_assoc (since kept old) (orders_of old.rows.items) (row.order ∷ []))

    pub adds_pending : Adds kept sent old new row → pending_orders kept new ≡ pending_orders kept old ++ row.order ∷ []
    adds_pending adds = adds_pending_by (is_full old) adds.steps adds.synced

  -- ---- what it leaves

  abbrev old_known : IsReady kept old → known_orders kept old ≡ synced_orders kept old ++ since kept old
  old_known is = known_is was old.synced old.seen is.behind

  -- where it is left as it was
  left_same : IsReady kept old → Same → new.rows.items ≡ old.rows.items → (d : List Instruction) → LeavesFront (MayLeave kept new) (synced_orders kept old) (pending_orders kept old ++ d)
  left_same is same rows d = λ c left. front (synced_orders kept old) (since kept old) (orders_of old.rows.items) d (by_case c left)
    where
      known : known_orders kept new ≡ synced_orders kept old ++ since kept old
      known = known_same is same ∙ old_known is

      by_case : (c : List Instruction) → MayLeave kept new c
          → (c ≡ synced_orders kept old ++ since kept old) ⊎ (c ≡ (synced_orders kept old ++ since kept old) ++ orders_of old.rows.items)
      by_case c (inl e) = inl (e ∙ known)
      by_case c (inr e) =
          inr (e ∙ ap (λ (l : List Instruction). l ++ orders_of new.rows.items) known
          ∙ ap (λ (l : List Row). (synced_orders kept old ++ since kept old) ++ orders_of l) rows)

  -- where no call was made
  pub ready_left : IsReady kept old → new ≡ old → (d : List Instruction) → LeavesFront (MayLeave kept old) (synced_orders kept old) (pending_orders kept old ++ d)
  ready_left is e d = subst (λ (l : SharedLog S P). LeavesFront (MayLeave kept l) (synced_orders kept old) (pending_orders kept old ++ d)) e
      (left_same is (record { grows = ([], ap (λ (l : SharedLog S P). kept l.store) e ∙ sym (append-nil (kept old.store))); seen = ap (λ (l : SharedLog S P). l.seen) e }) (ap (λ (l : SharedLog S P). l.rows.items) e) d)

  pub stays_left : IsReady kept old → Stays kept sent old new → LeavesFront (MayLeave kept new) (synced_orders kept old) (pending_orders kept old)
  stays_left is stays = λ c left.
      let found = left_same is (stays_same stays) stays.rows [] c left in
      (found.0, found.1 ∙ ap (λ (l : List Instruction). synced_orders kept old ++ take found.0 l) (append-nil (pending_orders kept old)))

  pub stays_left_more : IsReady kept old → Stays kept sent old new → (o : Instruction) → LeavesFront (MayLeave kept new) (synced_orders kept old) (pending_orders kept old ++ o ∷ [])
  stays_left_more is stays o = left_same is (stays_same stays) stays.rows (o ∷ [])

  -- where the batch was sent, and these rows are left
  left_sent : (back : BatchesComeBack) (rows : List Row) → Sends kept sent old new rows → IsReady kept old
      → LeavesFront (MayLeave kept new) (synced_orders kept old) (pending_orders kept old ++ orders_of rows)
  left_sent back rows sends is = λ c left.
      let found = front (synced_orders kept old) (pending_orders kept old) (orders_of rows) [] (by_case c left) in
      (found.0, found.1 ∙ ap (λ (l : List Instruction). synced_orders kept old ++ take found.0 l) (append-nil (pending_orders kept old ++ orders_of rows)))
    where
      known : known_orders kept new ≡ synced_orders kept old ++ pending_orders kept old
      known =
          known_sent back rows sends is ∙ ap (λ (l : List Instruction). l ++ orders_of old.rows.items) (old_known is)
          ∙ append_assoc (synced_orders kept old) (since kept old) (orders_of old.rows.items)

      by_case : (c : List Instruction) → MayLeave kept new c
          → (c ≡ synced_orders kept old ++ pending_orders kept old) ⊎ (c ≡ (synced_orders kept old ++ pending_orders kept old) ++ orders_of rows)
      by_case c (inl e) = inl (e ∙ known)
      by_case c (inr e) =
          inr (e ∙ ap (λ (l : List Instruction). l ++ orders_of new.rows.items) known
          ∙ ap (λ (l : List Row). (synced_orders kept old ++ pending_orders kept old) ++ orders_of l) sends.rows)

  -- where an order more joined the batch
  left_held : (row : Row) → Holds kept sent old new (old.rows.items ++ row ∷ []) → IsReady kept old
      → LeavesFront (MayLeave kept new) (synced_orders kept old) (pending_orders kept old ++ row.order ∷ [])
  left_held row holds is = λ c left.
      let found = front (synced_orders kept old) (since kept old) (orders_of new.rows.items) [] (by_case c left) in
      (found.0, found.1 ∙ ap (λ (l : List Instruction). synced_orders kept old ++ take found.0 l) all)
    where
      known : known_orders kept new ≡ synced_orders kept old ++ since kept old
      known = known_same is (holds_same _ holds) ∙ old_known is

      all : (since kept old ++ orders_of new.rows.items) ++ [] ≡ pending_orders kept old ++ row.order ∷ []
      all =
          append-nil (since kept old ++ orders_of new.rows.items)
          ∙ ap (λ (l : List Row). since kept old ++ orders_of l) holds.rows
          ∙ ap (λ (l : List Instruction). since kept old ++ l) (one_more row old.rows.items)
          ∙ sym (append_assoc (since kept old) (orders_of old.rows.items) (row.order ∷ []))

      by_case : (c : List Instruction) → MayLeave kept new c
          → (c ≡ synced_orders kept old ++ since kept old) ⊎ (c ≡ (synced_orders kept old ++ since kept old) ++ orders_of new.rows.items)
      by_case c (inl e) = inl (e ∙ known)
      by_case c (inr e) = inr (e ∙ ap (λ (l : List Instruction). l ++ orders_of new.rows.items) known)

  adds_left_by : BatchesComeBack → (full : Bool) (row : Row) → Joins full row → IsReady kept old
      → LeavesFront (MayLeave kept new) (synced_orders kept old) (pending_orders kept old ++ row.order ∷ [])
  adds_left_by back true row sends is = left_sent back (row ∷ []) sends is
  adds_left_by back false row holds is = left_held row holds is

  pub adds_left : BatchesComeBack → (row : Row) → Adds kept sent old new row → IsReady kept old
      → LeavesFront (MayLeave kept new) (synced_orders kept old) (pending_orders kept old ++ row.order ∷ [])
  adds_left back row adds is = adds_left_by back (is_full old) row adds.steps is

  -- ---- a sync

  module _ (back : BatchesComeBack) (is : IsReady kept old) where
    flush_known_by : (rows : List Row) → rows ≡ old.rows.items → FlushesBy kept sent rows old new → new.seen ≤ length (kept new.store)
    flush_known_by [] e holds = omega (arith, holds.seen, still_within old.seen was now (holds_same _ holds).grows is.known)
    flush_known_by (r ∷ rs) e sends = seen_kept back [] sends is

    pub flushes_ready : Flushes kept sent old new → IsReady kept new
    flushes_ready f = record { known = flush_known_by old.rows.items refl f.steps; behind = omega (arith, f.synced) }

    flush_all_by : (rows : List Row) → rows ≡ old.rows.items → FlushesBy kept sent rows old new → known_orders kept new ≡ known_orders kept old ++ orders_of rows
    flush_all_by [] e holds = known_same is (holds_same _ holds) ∙ sym (append-nil (known_orders kept old))
    flush_all_by (r ∷ rs) e sends = known_sent back [] sends is ∙ ap (λ (l : List Row). known_orders kept old ++ orders_of l) (sym e)

    pub flushes_synced : Flushes kept sent old new → synced_orders kept new ≡ synced_orders kept old ++ pending_orders kept old
    flushes_synced f =
        ap (λ n. orders_kept now n) f.synced ∙ flush_all_by old.rows.items refl f.steps
        ∙ ap (λ (l : List Instruction). l ++ orders_of old.rows.items) (old_known is)
        ∙ append_assoc (synced_orders kept old) (since kept old) (orders_of old.rows.items)

    no_rows_by : (rows : List Row) → FlushesBy kept sent rows old new → new.rows.items ≡ []
    no_rows_by [] holds = holds.rows
    no_rows_by (r ∷ rs) sends = sends.rows

    drop_front : (n : ℕ) (xs : List (List ℕ)) → drop n (take n xs) ≡ []
    drop_front zero xs = refl
    drop_front (suc n) [] = refl
    drop_front (suc n) (x ∷ xs) = drop_front n xs

    pub flushes_none : Flushes kept sent old new → pending_orders kept new ≡ []
    flushes_none f =
        ap (λ n. orders_in (batches_of (drop n (take new.seen now))) ++ orders_of new.rows.items) f.synced
        ∙ ap (λ (l : List (List ℕ)). orders_in (batches_of l) ++ orders_of new.rows.items) (drop_front new.seen now)
        ∙ ap orders_of (no_rows_by old.rows.items f.steps)

    flush_left_by : (rows : List Row) → rows ≡ old.rows.items → FlushesBy kept sent rows old new
        → LeavesFront (MayLeave kept new) (synced_orders kept old) (pending_orders kept old)
    flush_left_by [] e holds = λ c left.
        let found = left_same is (holds_same _ holds) (holds.rows ∙ e) [] c left in
        (found.0, found.1 ∙ ap (λ (l : List Instruction). synced_orders kept old ++ take found.0 l) (append-nil (pending_orders kept old)))
    flush_left_by (r ∷ rs) e sends = λ c left.
        let found = left_sent back [] sends is c left in
        (found.0, found.1 ∙ ap (λ (l : List Instruction). synced_orders kept old ++ take found.0 l) (append-nil (pending_orders kept old)))

    pub flushes_left : Flushes kept sent old new → LeavesFront (MayLeave kept new) (synced_orders kept old) (pending_orders kept old)
    flushes_left f = flush_left_by old.rows.items refl f.steps
