-- An issuer that follows the batches of a store.
use Rattle.std.specs.Prelude.{◌≡◌, ◌≤◌, ℕ, ◌+◌, true, false, Bool, List, length, Some, slice_get}
use Rattle.iso_issuer.specs.Books.{Books}
use Rattle.iso_durable.specs.World.{IsStart}
use Rattle.iso_shared.specs.declared.opening.OpenError.{OpenError}
use Rattle.iso_shared.specs.declared.opening.OpenError.TheVariants.{Memory, Away, Failed, Damaged}
use Rattle.iso_shared.specs.declared.standby.Standby.{Standby}
use Rattle.iso_shared.specs.Kept.{orders_kept}
use Rattle.iso_shared.specs.Written.{IsNext}

-- why a batch isn't taken
abbrev pub IsTakeFault : Books → ℕ → List ℕ → OpenError → Type 0
IsTakeFault books here bytes (Damaged place) = (place ≡ here) × (IsNext books here bytes → ⊥)
IsTakeFault books here bytes Failed = ⊥
IsTakeFault books here bytes Memory = Unit {0}
IsTakeFault books here bytes Away = ⊥

module _ {S : Type 0} (kept : S → List (List ℕ)) where
  -- it has the orders of the batches that it has read, and each of them is one that a host writes there
  pub record IsFollowing (standby : Standby S) : Type 0 where
    pub known : standby.seen ≤ length (kept standby.store)
    pub orders : standby.issuer.orders ≡ orders_kept (kept standby.store) standby.seen
    pub start : IsStart standby.issuer.limit standby.issuer.orders

  -- it took the next batch
  pub record Takes (old new : Standby S) : Type 0 where
    pub bytes : List ℕ
    pub stands : slice_get (kept new.store) old.seen ≡ Some bytes
    pub next : IsNext old.issuer (old.seen + 1) bytes
    pub seen : new.seen ≡ old.seen + 1

  -- it found no further batch
  pub record Waits (old new : Standby S) : Type 0 where
    pub issuer : new.issuer ≡ old.issuer
    pub seen : new.seen ≡ old.seen
    pub failed : new.has_failed ≡ old.has_failed

  -- by what it says
  abbrev pub ReadsOn : Standby S → Standby S → Bool → Type 0
  ReadsOn old new true = Takes old new
  ReadsOn old new false = Waits old new

  -- the reason of a refusal: the place is the next one, and no host writes there what it has
  abbrev pub IsRefusal : Standby S → Standby S → OpenError → Type 0
  IsRefusal old new (Damaged place) =
      (bytes : List ℕ) × (slice_get (kept new.store) old.seen ≡ Some bytes)
      × IsTakeFault old.issuer (old.seen + 1) bytes (Damaged place)
  IsRefusal old new Failed = old.has_failed ≡ true
  IsRefusal old new Memory = Unit {0}
  IsRefusal old new Away = Waits old new
