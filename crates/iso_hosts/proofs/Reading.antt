-- A host that reads the next batch, and what the others do meanwhile.
use Rattle.std.proofs.Common.{◌≡◌, ◌≤◌, ℕ, ◌+◌, Bool, true, false, refl, ap, sym, ◌∙◌}
use Rattle.std.proofs.Common.{List, [], ◌∷◌, ◌++◌, length, take}
use Rattle.std.specs.Prelude.{◌==◌, Option, Some, None, slice_get, if◌then◌else◌}
use Rattle.std.proofs.lemmas.List.{take-append-le}
use Rattle.iso_order.specs.Order.{Instruction}
use Rattle.iso_issuer.specs.Journal.{is_entered}
use Rattle.iso_hosts.specs.World.{World, Batch, Decisions, Host, Event, orders_in, seen_by, doubted}
use Rattle.iso_hosts.specs.World.{Receives, Sends, Arrives, Reads, Restarts}
use Rattle.iso_hosts.specs.World.{host_at, fresh, with_host}
use Rattle.iso_hosts.specs.World.{known_answer, decides, receives, batch_of, arrives, same_batch}
use Rattle.iso_hosts.specs.World.{tells, forgets, finds, reads, after_event}
use Rattle.iso_hosts.specs.Laws.{IsInDoubtOf, is_of}
use Rattle.iso_hosts.proofs.Alone.{IssuerLaws}
use Rattle.iso_hosts.proofs.Batches.{self_same, seen_more, same_batch_is, same_batch_self}

-- the batch that it is in doubt of
pub own_is_told : (laws : IssuerLaws) (w : World) (n : ℕ) (d : Decisions)
    → (w.hosts n).in_doubt ≡ Some d
    → slice_get w.kept (w.hosts n).seen ≡ Some (batch_of n (w.hosts n))
    → ((after_event w (Reads n)).told ≡ w.told ++ d.answers)
    × ((after_event w (Reads n)).hosts n
    ≡ record { seen = (w.hosts n).seen + 1; in_doubt = None; behind = (w.hosts n).behind })
own_is_told laws w n d doubt found =
    let found_it : after_event w (Reads n)
    ≡ finds w n (w.hosts n) (batch_of n (w.hosts n)) (w.hosts n).in_doubt =
    ap (reads w n (w.hosts n)) found in
    let own : finds w n (w.hosts n) (batch_of n (w.hosts n)) (Some d) ≡ tells w n (w.hosts n) d =
    rw (same_batch_self laws (batch_of n (w.hosts n))) refl in
    let told : after_event w (Reads n) ≡ tells w n (w.hosts n) d =
    found_it ∙ ap (finds w n (w.hosts n) (batch_of n (w.hosts n))) doubt ∙ own in (
      ap (λ (x : World). x.told) told,
      ap (λ (x : World). x.hosts n) told ∙ rw (self_same n) refl,
    )

-- another batch
forgets_by : (laws : IssuerLaws) (w : World) (n : ℕ) (h : Host) (b : Batch)
    → (IsInDoubtOf n h b → ⊥) → (doubt : Option Decisions) → h.in_doubt ≡ doubt
    → finds w n h b doubt ≡ forgets w n h
forgets_by laws w n h b other None own = refl
forgets_by laws w n h b other (Some d) own = by_test (same_batch (batch_of n h) b) refl
  where
    by_test : (c : Bool) → same_batch (batch_of n h) b ≡ c
        → (if c then tells w n h d else forgets w n h) ≡ forgets w n h
    by_test true e = absurd (other (d, own, sym (same_batch_is laws (batch_of n h) b e)))
    by_test false e = refl

pub fenced_says_nothing : (laws : IssuerLaws) (w : World) (n : ℕ) (b : Batch)
    → slice_get w.kept (w.hosts n).seen ≡ Some b → (IsInDoubtOf n (w.hosts n) b → ⊥)
    → ((after_event w (Reads n)).told ≡ w.told)
    × ((after_event w (Reads n)).hosts n ≡ fresh ((w.hosts n).seen + 1))
fenced_says_nothing laws w n b found other =
    let forgot : after_event w (Reads n) ≡ forgets w n (w.hosts n) =
    ap (reads w n (w.hosts n)) found
    ∙ forgets_by laws w n (w.hosts n) b other (w.hosts n).in_doubt refl in (
      ap (λ (x : World). x.told) forgot,
      ap (λ (x : World). x.hosts n) forgot ∙ rw (self_same n) refl,
    )

-- either way it has seen one batch more
record SeesOneMore (w : World) (n : ℕ) (h : Host) (new : World) : Type 0 where
  pub kept : new.kept ≡ w.kept
  pub seen : (new.hosts n).seen ≡ h.seen + 1

finds_sees : (w : World) (n : ℕ) (h : Host) (b : Batch) (doubt : Option Decisions)
    → SeesOneMore w n h (finds w n h b doubt)
finds_sees w n h b None = record { kept = refl; seen = rw (self_same n) refl }
finds_sees w n h b (Some d) = by_test (same_batch (batch_of n h) b)
  where
    by_test : (c : Bool) → SeesOneMore w n h (if c then tells w n h d else forgets w n h)
    by_test true = record { kept = refl; seen = rw (self_same n) refl }
    by_test false = record { kept = refl; seen = rw (self_same n) refl }

pub reads_on : (w : World) (n : ℕ) (b : Batch) → slice_get w.kept (w.hosts n).seen ≡ Some b
    → seen_by (after_event w (Reads n)) ((after_event w (Reads n)).hosts n)
    ≡ seen_by w (w.hosts n) ++ b.orders
reads_on w n b found =
    let new = finds w n (w.hosts n) b (w.hosts n).in_doubt in
    let more = finds_sees w n (w.hosts n) b (w.hosts n).in_doubt in
    ap (λ (x : World). seen_by x (x.hosts n)) (ap (reads w n (w.hosts n)) found)
    ∙ ap (λ (l : List Batch). orders_in (take (new.hosts n).seen l)) more.kept
    ∙ ap (λ (k : ℕ). orders_in (take k w.kept)) more.seen
    ∙ seen_more w.kept (w.hosts n).seen b found

-- ---- the other hosts

-- a host is left as it was
abbrev Leaves : World → ℕ → World → Type 0
Leaves w n new = (new.hosts n ≡ w.hosts n) × (host_at new n ≡ host_at w n)

receives_leaves : (w : World) (n k : ℕ) (o : Instruction) → (n == k) ≡ false
    → Leaves w n (receives w k (w.hosts k) o)
receives_leaves w n k o other = by_test (is_entered (seen_by w (w.hosts k)) o.key)
  where
    by_test : (known : Bool) → Leaves w n (if known
        then record w { told = w.told ++ known_answer w (w.hosts k) o ∷ [] }
        else record w { hosts = with_host w.hosts k (decides w (w.hosts k) o) })
    by_test true = (refl, refl)
    by_test false = (rw other refl, rw other refl)

arrives_leaves : (w : World) (n : ℕ) (f : Option Batch) → (w.hosts n).seen ≤ length w.kept
    → Leaves w n (arrives w f)
arrives_leaves w n None within = (refl, refl)
arrives_leaves w n (Some b) within = by_test (b.place == length w.kept)
  where
    by_test : (c : Bool) → Leaves w n (if c then record w { kept = w.kept ++ b ∷ [] } else w)
    by_test true = (
      refl,
      ap (λ (l : List Batch). record {
        accounts = w.accounts;
        limit = w.limit;
        synced = orders_in l ++ doubted (w.hosts n).in_doubt;
        pending = (w.hosts n).behind.orders;
      }) (take-append-le (w.hosts n).seen w.kept (b ∷ []) within),
    )
    by_test false = (refl, refl)

finds_leaves : (w : World) (n k : ℕ) (b : Batch) (doubt : Option Decisions) → (n == k) ≡ false
    → Leaves w n (finds w k (w.hosts k) b doubt)
finds_leaves w n k b None other = (rw other refl, rw other refl)
finds_leaves w n k b (Some d) other = by_test (same_batch (batch_of k (w.hosts k)) b)
  where
    by_test : (c : Bool) → Leaves w n
        (if c then tells w k (w.hosts k) d else forgets w k (w.hosts k))
    by_test true = (rw other refl, rw other refl)
    by_test false = (rw other refl, rw other refl)

reads_leaves : (w : World) (n k : ℕ) (f : Option Batch) → (n == k) ≡ false
    → Leaves w n (reads w k (w.hosts k) f)
reads_leaves w n k None other = (refl, refl)
reads_leaves w n k (Some b) other = finds_leaves w n k b (w.hosts k).in_doubt other

pub others_leave_it : (w : World) (n : ℕ) (e : Event) → (w.hosts n).seen ≤ length w.kept
    → is_of n e ≡ false
    → ((after_event w e).hosts n ≡ w.hosts n) × (host_at (after_event w e) n ≡ host_at w n)
others_leave_it w n (Receives k o) within other = receives_leaves w n k o other
others_leave_it w n (Sends k) within other = (rw other refl, rw other refl)
others_leave_it w n (Arrives which) within other =
    arrives_leaves w n (slice_get w.sent which) within
others_leave_it w n (Reads k) within other =
    reads_leaves w n k (slice_get w.kept (w.hosts k).seen) other
others_leave_it w n (Restarts k seen) within other = (rw other refl, rw other refl)
