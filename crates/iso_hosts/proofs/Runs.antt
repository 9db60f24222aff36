-- The log only grows, and what holds after every list of events.
use Rattle.std.proofs.Common.{◌≡◌, ◌≤◌, ◌<◌, ℕ, Bool, true, false, refl, arith, ap, sym, ◌∙◌, subst}
use Rattle.std.proofs.Common.{List, [], ◌∷◌, ◌++◌, length, append_assoc, append-nil, length-append}
use Rattle.std.specs.Prelude.{◌==◌, Option, Some, None, slice_get, if◌then◌else◌}
use Rattle.std.specs.List.{AllByRecursion}
use Rattle.std.proofs.lemmas.Bool.Decides.{nat_tests}
use Rattle.iso_order.specs.Order.{Instruction}
use Rattle.iso_issuer.specs.declared.account.Account.{Account}
use Rattle.iso_issuer.specs.Journal.{is_entered}
use Rattle.iso_issuer.specs.Decision.{journal_of, answer_for}
use Rattle.iso_durable.specs.World.{Told, IsAnswered, IsStart}
use Rattle.iso_hosts.specs.World.{World, Batch, Decisions, Host, Event, orders_in, seen_by, with_host}
use Rattle.iso_hosts.specs.World.{Receives, Sends, Arrives, Reads, Restarts, known_answer, decides}
use Rattle.iso_hosts.specs.World.{receives, batch_of, arrives, same_batch}
use Rattle.iso_hosts.specs.World.{tells, forgets, finds, reads}
use Rattle.iso_hosts.specs.World.{after_event, after_events, log_begins}
use Rattle.iso_hosts.proofs.Lists.{all-at}
use Rattle.iso_hosts.proofs.Alone.{IssuerLaws, AllAnswered}
use Rattle.iso_hosts.proofs.Batches.{all_within}
use Rattle.iso_hosts.proofs.Sound.{IsSound, events_sound, begins_sound}

-- the log only grows, and the accounts and the limit stay
pub record GoesOn (old new : World) : Type 0 where
  pub accounts : new.accounts ≡ old.accounts
  pub limit : new.limit ≡ old.limit
  pub more : List Batch
  pub kept : new.kept ≡ old.kept ++ more

-- ---- an event

-- nothing is kept
same_log : (w new : World) → new.accounts ≡ w.accounts → new.limit ≡ w.limit → new.kept ≡ w.kept
    → GoesOn w new
same_log w new accounts limit kept = record {
  accounts = accounts;
  limit = limit;
  more = [];
  kept = kept ∙ sym (append-nil w.kept);
}

receives_goes : (w : World) (n : ℕ) (h : Host) (o : Instruction) → GoesOn w (receives w n h o)
receives_goes w n h o = by_test (is_entered (seen_by w h) o.key)
  where
    by_test : (known : Bool) → GoesOn w (if known
        then record w { told = w.told ++ known_answer w h o ∷ [] }
        else record w { hosts = with_host w.hosts n (decides w h o) })
    by_test true = same_log w _ refl refl refl
    by_test false = same_log w _ refl refl refl

arrives_goes : (w : World) (f : Option Batch) → GoesOn w (arrives w f)
arrives_goes w None = same_log w w refl refl refl
arrives_goes w (Some b) = by_test (b.place == length w.kept)
  where
    by_test : (c : Bool) → GoesOn w (if c then record w { kept = w.kept ++ b ∷ [] } else w)
    by_test true = record { accounts = refl; limit = refl; more = b ∷ []; kept = refl }
    by_test false = same_log w w refl refl refl

finds_goes : (w : World) (n : ℕ) (h : Host) (b : Batch) (doubt : Option Decisions)
    → GoesOn w (finds w n h b doubt)
finds_goes w n h b None = same_log w (forgets w n h) refl refl refl
finds_goes w n h b (Some d) = by_test (same_batch (batch_of n h) b)
  where
    by_test : (c : Bool) → GoesOn w (if c then tells w n h d else forgets w n h)
    by_test true = same_log w (tells w n h d) refl refl refl
    by_test false = same_log w (forgets w n h) refl refl refl

reads_goes : (w : World) (n : ℕ) (h : Host) (f : Option Batch) → GoesOn w (reads w n h f)
reads_goes w n h None = same_log w w refl refl refl
reads_goes w n h (Some b) = finds_goes w n h b h.in_doubt

event_goes : (w : World) (e : Event) → GoesOn w (after_event w e)
event_goes w (Receives n o) = receives_goes w n (w.hosts n) o
event_goes w (Sends n) = same_log w _ refl refl refl
event_goes w (Arrives k) = arrives_goes w (slice_get w.sent k)
event_goes w (Reads n) = reads_goes w n (w.hosts n) (slice_get w.kept (w.hosts n).seen)
event_goes w (Restarts n seen) = same_log w _ refl refl refl

-- events one after another
pub goes_on : (w : World) (es : List Event) → GoesOn w (after_events es w)
goes_on w [] = same_log w w refl refl refl
goes_on w (e ∷ es) =
    let first = event_goes w e in
    let rest = goes_on (after_event w e) es in
    record {
      accounts = rest.accounts ∙ first.accounts;
      limit = rest.limit ∙ first.limit;
      more = first.more ++ rest.more;
      kept =
          rest.kept
          ∙ ap (λ (l : List Batch). l ++ rest.more) first.kept
          ∙ append_assoc w.kept first.more rest.more;
    }

-- a batch whose place is taken is lost
pub late_is_lost : (w : World) (es : List Event) (b : Batch) → b.place < length w.kept
    → arrives (after_events es w) (Some b) ≡ after_events es w
late_is_lost w es b late =
    let on = goes_on w es in
    let taken : (b.place == length (after_events es w).kept) ≡ false =
    grind (arith, nat_tests, late, ap length on.kept, length-append w.kept on.more) in
    rw taken refl

-- ---- after every list of events

module _ (laws : IssuerLaws) (accounts : List Account) (limit : ℕ) (kept : List Batch)
    (events : List Event) (start : IsStart limit (orders_in kept)) where
  sound : IsSound (after_events events (log_begins accounts limit kept))
  sound =
      events_sound laws events (log_begins accounts limit kept)
      (begins_sound laws accounts limit kept start)

  pub kept_once : IsStart limit
      (orders_in (after_events events (log_begins accounts limit kept)).kept)
  kept_once =
      let w = after_events events (log_begins accounts limit kept) in
      subst (λ (l : ℕ). IsStart l (orders_in w.kept))
      (goes_on (log_begins accounts limit kept) events).limit sound.start

  pub all_told : AllAnswered accounts
      (orders_in (after_events events (log_begins accounts limit kept)).kept)
      (after_events events (log_begins accounts limit kept)).told
  all_told =
      let w = after_events events (log_begins accounts limit kept) in
      subst (λ (a : List Account). AllAnswered a (orders_in w.kept) w.told)
      (goes_on (log_begins accounts limit kept) events).accounts sound.told

  pub agree : (i j : ℕ) (t u : Told)
      → slice_get (after_events events (log_begins accounts limit kept)).told i ≡ Some t
      → slice_get (after_events events (log_begins accounts limit kept)).told j ≡ Some u
      → t.order ≡ u.order → t.answer ≡ u.answer
  agree i j t u ti uj one =
      let w = after_events events (log_begins accounts limit kept) in
      let first : IsAnswered accounts (orders_in w.kept) t =
      all-at (IsAnswered accounts (orders_in w.kept)) w.told i t all_told ti in
      let second : IsAnswered accounts (orders_in w.kept) u =
      all-at (IsAnswered accounts (orders_in w.kept)) w.told j u all_told uj in
      sym first.same
      ∙ ap (answer_for accounts (journal_of accounts (orders_in w.kept))) one
      ∙ second.same

  pub seen_is_kept : (n : ℕ)
      → ((after_events events (log_begins accounts limit kept)).hosts n).seen
      ≤ length (after_events events (log_begins accounts limit kept)).kept
  seen_is_kept n = (sound.hosts n).within

  pub no_gaps : AllByRecursion
      (λ b. b.place ≤ length (after_events events (log_begins accounts limit kept)).kept)
      (after_events events (log_begins accounts limit kept)).sent
  no_gaps =
      let w = after_events events (log_begins accounts limit kept) in
      all_within w.limit w.kept w.sent sound.sent
