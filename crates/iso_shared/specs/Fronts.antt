-- What a log leaves, as a front of what it has.
-- Inner: bodies and proofs cite it, and no public clause does.
use Rattle.std.proofs.Common.{◌≡◌, ◌∙◌, ◌⊎◌, inl, inr, ◌≤◌, ℕ, zero, suc, List, [], ◌∷◌, ◌++◌, length, take, drop, append_assoc, append-nil, refl, sym, ap, arith}
use Rattle.std.proofs.Math.Seq.{take-append_seam}
use Rattle.std.proofs.lemmas.List.{take-append-drop, map-append}
use Rattle.iso_order.specs.Order.{Instruction}
use Rattle.iso_durable.specs.Front.{LeavesFront}
use Rattle.iso_hosts.specs.World.{Batch, orders_in}
use Rattle.iso_shared.specs.declared.log.SharedLog.{SharedLog}
use Rattle.iso_shared.specs.Kept.{orders_of, batch_of, batches_of, orders_kept}
use Rattle.iso_shared.specs.Log.{synced_orders, known_orders, pending_orders, MayLeave, IsReady}

-- the orders of batches, one after another
pub orders_both : (xs ys : List Batch) → orders_in (xs ++ ys) ≡ orders_in xs ++ orders_in ys
orders_both [] ys = refl
orders_both (x ∷ xs) ys =
    ap (λ (l : List Instruction). x.orders ++ l) (orders_both xs ys)
    ∙ sym (append_assoc x.orders (orders_in xs) (orders_in ys))

-- the same of batches as they are kept
pub orders_of_both : (xs ys : List (List ℕ))
    → orders_in (batches_of (xs ++ ys)) ≡ orders_in (batches_of xs) ++ orders_in (batches_of ys)
orders_of_both xs ys =
    ap orders_in (map-append batch_of xs ys) ∙ orders_both (batches_of xs) (batches_of ys)

-- a front of so many
take_take : (n m : ℕ) (xs : List (List ℕ)) → n ≤ m → take n (take m xs) ≡ take n xs
take_take zero m xs le = refl
take_take (suc n) zero xs le = absurd (omega (arith, le))
take_take (suc n) (suc m) [] le = refl
take_take (suc n) (suc m) (x ∷ xs) le =
    ap (λ (l : List (List ℕ)). x ∷ l) (take_take n m xs (omega (arith, le)))

-- what is known is what was synced, and the batches since
pub known_is : (kept : List (List ℕ)) (synced seen : ℕ) → synced ≤ seen
    → orders_kept kept seen
    ≡ orders_kept kept synced ++ orders_in (batches_of (drop synced (take seen kept)))
known_is kept synced seen le =
    ap (λ (l : List (List ℕ)). orders_in (batches_of l))
    (sym (take-append-drop synced (take seen kept)))
    ∙ orders_of_both (take synced (take seen kept)) (drop synced (take seen kept))
    ∙ ap (λ (l : List (List ℕ)). orders_in (batches_of l)
    ++ orders_in (batches_of (drop synced (take seen kept)))) (take_take synced seen kept le)

-- some of the orders behind the synced ones, from the front
pub front : (synced a b d : List Instruction) → {c : List Instruction}
    → (c ≡ synced ++ a) ⊎ (c ≡ (synced ++ a) ++ b)
    → (n : ℕ) × (c ≡ synced ++ take n ((a ++ b) ++ d))
front synced a b d {c} (inl e) = (
  length a,
  e ∙ ap (λ (l : List Instruction). synced ++ l)
      (sym (ap (take (length a)) (append_assoc a b d) ∙ take-append_seam a (b ++ d))),
)
front synced a b d {c} (inr e) = (
  length (a ++ b),
  e ∙ append_assoc synced a b
      ∙ ap (λ (l : List Instruction). synced ++ l) (sym (take-append_seam (a ++ b) d)),
)

module _ {S P : Type 0} (kept : S → List (List ℕ)) (log : SharedLog S P) where
  -- the orders of the batches since the last sync
  abbrev pub since : List Instruction
  since = orders_in (batches_of (drop log.synced (take log.seen (kept log.store))))

  -- a crash leaves the synced orders, and a front of those that wait
  pub ready_leaves : IsReady kept log
      → LeavesFront (MayLeave kept log) (synced_orders kept log) (pending_orders kept log)
  ready_leaves is = λ c left.
      let known : known_orders kept log ≡ synced_orders kept log ++ since =
      known_is (kept log.store) log.synced log.seen is.behind in
      let rows = orders_of log.rows.items in
      let found = front (synced_orders kept log) since rows [] (by_known c known left) in (
        found.0,
        found.1
            ∙ ap (λ (l : List Instruction). synced_orders kept log ++ take found.0 l)
            (append-nil (since ++ rows)),
      )
    where
      by_known : (c : List Instruction) → known_orders kept log ≡ synced_orders kept log ++ since
          → (c ≡ known_orders kept log) ⊎ (c ≡ known_orders kept log ++ orders_of log.rows.items)
          → (c ≡ synced_orders kept log ++ since)
          ⊎ (c ≡ (synced_orders kept log ++ since) ++ orders_of log.rows.items)
      by_known c known (inl e) = inl (e ∙ known)
      by_known c known (inr e) =
          inr (e ∙ ap (λ (l : List Instruction). l ++ orders_of log.rows.items) known)
