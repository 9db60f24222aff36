-- The orders of batches, and what may follow them in the log.
use Rattle.std.proofs.Common.{◌≡◌, ◌≤◌, ℕ, ◌+◌, true, refl, arith, ap, sym, ◌∙◌}
use Rattle.std.proofs.Common.{subst, List, [], ◌∷◌, ◌++◌, length, take, drop}
use Rattle.std.proofs.Common.{append_assoc, append-nil, length-append, take-append-drop}
use Rattle.std.specs.Prelude.{◌&&◌, ◌==◌, Some, slice_get, get_or}
use Rattle.std.specs.List.{AllByRecursion}
use Rattle.std.proofs.lemmas.Bool.{and_parts}
use Rattle.std.proofs.lemmas.Bool.Decides.{nat_tests}
use Rattle.std.proofs.lemmas.List.{take-append-le, take_more}
use Rattle.std.proofs.lemmas.Option.{slice_get_within, get_or_from_slice_get}
use Rattle.iso_order.specs.Order.{Instruction, same_order}
use Rattle.iso_durable.specs.World.{IsStart}
use Rattle.iso_hosts.specs.World.{Batch, orders_in, same_orders, same_batch}
use Rattle.iso_hosts.proofs.Alone.{IssuerLaws}

-- ---- lists

pub self_same : (n : ℕ) → (n == n) ≡ true
self_same n = grind (arith, nat_tests)

-- ---- the orders of batches

in_both : (xs ys : List Batch) → orders_in (xs ++ ys) ≡ orders_in xs ++ orders_in ys
in_both [] ys = refl
in_both (x ∷ xs) ys =
    ap (λ (l : List Instruction). x.orders ++ l) (in_both xs ys)
    ∙ sym (append_assoc x.orders (orders_in xs) (orders_in ys))

pub in_one_more : (xs : List Batch) (b : Batch)
    → orders_in (xs ++ b ∷ []) ≡ orders_in xs ++ b.orders
in_one_more xs b =
    in_both xs (b ∷ [])
    ∙ ap (λ (l : List Instruction). orders_in xs ++ l) (append-nil b.orders)

-- what was seen, and what comes behind it
pub split_at : (n : ℕ) (kept : List Batch)
    → orders_in kept ≡ orders_in (take n kept) ++ orders_in (drop n kept)
split_at n kept =
    ap orders_in (sym (take-append-drop n kept)) ∙ in_both (take n kept) (drop n kept)

-- one batch more is seen
pub seen_more : (kept : List Batch) (n : ℕ) (b : Batch) → slice_get kept n ≡ Some b
    → orders_in (take (n + 1) kept) ≡ orders_in (take n kept) ++ b.orders
seen_more kept n b h =
    let at : get_or kept n b ≡ b = get_or_from_slice_get kept n b b h in
    ap orders_in
    (take_more kept n b (slice_get_within kept n b h)
    ∙ ap (λ (c : Batch). take n kept ++ c ∷ []) at)
    ∙ in_one_more (take n kept) b

-- ---- batches that compare alike

same_orders_are : (laws : IssuerLaws) (os ps : List Instruction)
    → same_orders os ps ≡ true → os ≡ ps
same_orders_are laws [] [] h = refl
same_orders_are laws [] (p ∷ ps) h = cc
same_orders_are laws (o ∷ os) [] h = cc
same_orders_are laws (o ∷ os) (p ∷ ps) h =
    let parts = and_parts (same_order o p) (same_orders os ps) h in
    ap (λ (x : Instruction). x ∷ os) (laws.one o p parts.0)
    ∙ ap (λ (l : List Instruction). p ∷ l) (same_orders_are laws os ps parts.1)

-- they are one
pub same_batch_is : (laws : IssuerLaws) (a b : Batch) → same_batch a b ≡ true → a ≡ b
same_batch_is laws a b h =
    let parts = and_parts (a.place == b.place)
    ((a.writer == b.writer) && same_orders a.orders b.orders) h in
    let rest = and_parts (a.writer == b.writer) (same_orders a.orders b.orders) parts.1 in
    let place : a.place ≡ b.place = grind (arith, nat_tests, parts.0) in
    let writer : a.writer ≡ b.writer = grind (arith, nat_tests, rest.0) in
    ap (λ (p : ℕ). record { place = p; writer = a.writer; orders = a.orders }) place
    ∙ ap (λ (n : ℕ). record { place = b.place; writer = n; orders = a.orders }) writer
    ∙ ap (λ (os : List Instruction). record { place = b.place; writer = b.writer; orders = os })
    (same_orders_are laws a.orders b.orders rest.1)

same_orders_self : (laws : IssuerLaws) (os : List Instruction) → same_orders os os ≡ true
same_orders_self laws [] = refl
same_orders_self laws (o ∷ os) = rw (laws.self o, same_orders_self laws os) refl

-- a batch compares like itself
pub same_batch_self : (laws : IssuerLaws) (b : Batch) → same_batch b b ≡ true
same_batch_self laws b =
    rw (self_same b.place, self_same b.writer, same_orders_self laws b.orders) refl

-- ---- what may follow in the log

-- so many batches are there, and the orders may follow them
pub record MayFollow (limit : ℕ) (kept : List Batch) (n : ℕ) (orders : List Instruction)
    : Type 0 where
  pub within : n ≤ length kept
  pub start : IsStart limit (orders_in (take n kept) ++ orders)

-- each of these batches may follow at its place
abbrev pub AllMayFollow : ℕ → List Batch → List Batch → Type 0
AllMayFollow limit kept bs = AllByRecursion (λ b. MayFollow limit kept b.place b.orders) bs

follows_on : (limit : ℕ) (kept more : List Batch) (n : ℕ) (orders : List Instruction)
    → MayFollow limit kept n orders → MayFollow limit (kept ++ more) n orders
follows_on limit kept more n orders h = record {
  within = omega (arith, length-append kept more, h.within);
  start =
      subst (λ (l : List Batch). IsStart limit (orders_in l ++ orders))
      (sym (take-append-le n kept more h.within)) h.start;
}

-- also where the log has grown
pub all_follow_on : (limit : ℕ) (kept more : List Batch) (bs : List Batch)
    → AllMayFollow limit kept bs → AllMayFollow limit (kept ++ more) bs
all_follow_on limit kept more [] h = tt
all_follow_on limit kept more (b ∷ bs) h =
    (follows_on limit kept more b.place b.orders h.0, all_follow_on limit kept more bs h.1)

pub all_within : (limit : ℕ) (kept bs : List Batch) → AllMayFollow limit kept bs
    → AllByRecursion (λ b. b.place ≤ length kept) bs
all_within limit kept [] h = tt
all_within limit kept (b ∷ bs) h = (h.0.within, all_within limit kept bs h.1)

-- a beginning of the log, on which a host starts
pub beginning : (laws : IssuerLaws) (limit : ℕ) (kept : List Batch) (n : ℕ)
    → IsStart limit (orders_in kept) → IsStart limit (orders_in (take n kept))
beginning laws limit kept n start =
    laws.starts.front limit (orders_in (take n kept)) (orders_in (drop n kept))
    (subst (IsStart limit) (split_at n kept) start)
