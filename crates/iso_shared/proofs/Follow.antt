-- An issuer that follows the batches of a store.
use Rattle.std.proofs.Common.{◌≡◌, ◌∙◌, ◌≤◌, ℕ, ◌+◌, List, [], ◌∷◌, ◌++◌, length, take, append-nil, sym, ap, arith}
use Rattle.std.specs.Prelude.{Some, slice_get}
use Rattle.std.proofs.lemmas.Option.{slice_get_within}
use Rattle.iso_order.specs.Order.{Instruction}
use Rattle.iso_durable.specs.World.{IsStart}
use Rattle.iso_hosts.specs.World.{orders_in}
use Rattle.iso_shared.specs.declared.opening.OpenError.{OpenError}
use Rattle.iso_shared.specs.declared.opening.OpenError.TheVariants.{Memory, Away, Failed, Damaged}
use Rattle.iso_shared.specs.declared.standby.Standby.{Standby}
use Rattle.iso_shared.specs.Store.{Grows}
use Rattle.iso_shared.specs.Kept.{batch_of, batches_of, orders_kept}
use Rattle.iso_shared.specs.Fronts.{orders_of_both}
use Rattle.iso_shared.specs.Standby.{IsFollowing, IsTakeFault, IsRefusal}
use Rattle.iso_shared.proofs.Logs.{front_stays, front_more}

-- the orders of one batch more
orders_more : (old new : List (List ℕ)) (n : ℕ) (bytes : List ℕ) → Grows old new → n ≤ length old → slice_get new n ≡ Some bytes
    → orders_kept new (n + 1) ≡ orders_kept old n ++ (batch_of bytes).orders
orders_more old new n bytes grows le at =
    ap (λ (l : List (List ℕ)). orders_in (batches_of l)) (front_more n new bytes at ∙ ap (λ (l : List (List ℕ)). l ++ bytes ∷ []) (front_stays n old new grows le))
    ∙ orders_of_both (take n old) (bytes ∷ [])
    ∙ ap (λ (l : List Instruction). orders_kept old n ++ l) (append-nil (batch_of bytes).orders)

module _ {S : Type 0} (kept : S → List (List ℕ)) (old new : Standby S) where
  pub follow_on : (bytes : List ℕ) → IsFollowing kept old → Grows (kept old.store) (kept new.store) → slice_get (kept new.store) old.seen ≡ Some bytes
      → new.seen ≡ old.seen + 1 → new.issuer.orders ≡ old.issuer.orders ++ (batch_of bytes).orders → IsStart new.issuer.limit new.issuer.orders → IsFollowing kept new
  follow_on bytes is grows at seen orders start = record {
    known = omega (arith, seen, slice_get_within (kept new.store) old.seen bytes at);
    orders =
        orders ∙ ap (λ (l : List Instruction). l ++ (batch_of bytes).orders) is.orders
        ∙ sym (orders_more (kept old.store) (kept new.store) old.seen bytes grows is.known at)
        ∙ ap (orders_kept (kept new.store)) (sym seen);
    start = start;
  }

  pub refusal : (bytes : List ℕ) (e : OpenError) → slice_get (kept new.store) old.seen ≡ Some bytes → IsTakeFault old.issuer (old.seen + 1) bytes e → IsRefusal kept old new e
  refusal bytes (Damaged place) at fault = (bytes, at, fault)
  refusal bytes Failed at fault = absurd fault
  refusal bytes Memory at fault = tt
  refusal bytes Away at fault = absurd fault
