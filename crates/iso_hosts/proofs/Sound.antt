-- What holds of the log and of each host, and how each event keeps it.
use Rattle.std.proofs.Common.{◌≡◌, ◌≤◌, ℕ, ◌+◌, Bool, true, false, refl, arith, ap, sym, ◌∙◌}
use Rattle.std.proofs.Common.{subst, List, [], ◌∷◌, ◌++◌, length, take, drop}
use Rattle.std.proofs.Common.{append-nil, length-append}
use Rattle.std.specs.Prelude.{◌==◌, Option, Some, None, min, slice_get, if◌then◌else◌}
use Rattle.std.proofs.lemmas.Bool.Decides.{nat_tests}
use Rattle.std.proofs.lemmas.List.{take-append-le, take_all}
use Rattle.std.proofs.lemmas.Option.{slice_get_within}
use Rattle.iso_order.specs.Order.{Instruction}
use Rattle.iso_issuer.specs.declared.account.Account.{Account}
use Rattle.iso_issuer.specs.Journal.{is_entered}
use Rattle.iso_durable.specs.World.{Told, Comes, happens, IsAnswered, IsStart}
use Rattle.iso_hosts.specs.World.{World, Batch, Decisions, Host, Event, orders_in, seen_by, doubted}
use Rattle.iso_hosts.specs.World.{Receives, Sends, Arrives, Reads, Restarts}
use Rattle.iso_hosts.specs.World.{alone, fresh, with_host, known_answer, decides, receives}
use Rattle.iso_hosts.specs.World.{to_send, left_behind, batch_of, sends, arrives, same_batch}
use Rattle.iso_hosts.specs.World.{tells, forgets, finds, reads}
use Rattle.iso_hosts.specs.World.{after_event, after_events, log_begins}
use Rattle.iso_hosts.proofs.Lists.{all-push, all-at}
use Rattle.iso_hosts.proofs.Alone.{IssuerLaws, AllAnswered, IsSoundAlone}
use Rattle.iso_hosts.proofs.Alone.{stays, all_stay, all_append}
use Rattle.iso_hosts.proofs.Alone.{comes_sound}
use Rattle.iso_hosts.proofs.Batches.{MayFollow, AllMayFollow, all_follow_on, beginning}
use Rattle.iso_hosts.proofs.Batches.{in_one_more, split_at, seen_more, same_batch_is}

-- the answers in doubt are those that the orders in doubt give behind what was seen
abbrev pub DoubtIsAnswered : List Account → List Instruction → Option Decisions → Type 0
DoubtIsAnswered accounts seen None = Unit {0}
DoubtIsAnswered accounts seen (Some d) = AllAnswered accounts (seen ++ d.orders) d.answers

-- what a host decided may follow what it has seen, and gives the answers that wait
pub record IsSoundHost (accounts : List Account) (limit : ℕ) (kept : List Batch) (h : Host)
    : Type 0 where
  pub within : h.seen ≤ length kept
  pub start :
      IsStart limit ((orders_in (take h.seen kept) ++ doubted h.in_doubt) ++ h.behind.orders)
  pub doubt : DoubtIsAnswered accounts (orders_in (take h.seen kept)) h.in_doubt
  pub behind :
      AllAnswered accounts
      ((orders_in (take h.seen kept) ++ doubted h.in_doubt) ++ h.behind.orders) h.behind.answers

-- the log can stand, it gives each answer told, each batch sent may follow at its place, and each
-- host is sound
pub record IsSound (w : World) : Type 0 where
  pub start : IsStart w.limit (orders_in w.kept)
  pub told : AllAnswered w.accounts (orders_in w.kept) w.told
  pub sent : AllMayFollow w.limit w.kept w.sent
  pub hosts : (n : ℕ) → IsSoundHost w.accounts w.limit w.kept (w.hosts n)

-- a host is sound where the log has grown
host_on : (accounts : List Account) (limit : ℕ) (kept more : List Batch) (h : Host)
    → IsSoundHost accounts limit kept h → IsSoundHost accounts limit (kept ++ more) h
host_on accounts limit kept more h sound =
    let same : orders_in (take h.seen (kept ++ more)) ≡ orders_in (take h.seen kept) =
    ap orders_in (take-append-le h.seen kept more sound.within) in
    record {
      within = omega (arith, length-append kept more, sound.within);
      start = rw same sound.start;
      doubt = rw same sound.doubt;
      behind = rw same sound.behind;
    }

-- a host that starts on a beginning of the log
fresh_sound : (laws : IssuerLaws) (accounts : List Account) (limit : ℕ) (kept : List Batch)
    (n : ℕ) → n ≤ length kept → IsStart limit (orders_in kept)
    → IsSoundHost accounts limit kept (fresh n)
fresh_sound laws accounts limit kept n within start = record {
  within = within;
  start =
      rw (append-nil (orders_in (take n kept) ++ []), append-nil (orders_in (take n kept)))
      (beginning laws limit kept n start);
  doubt = tt;
  behind = tt;
}

-- where one host changes
hosts_with : (accounts : List Account) (limit : ℕ) (kept : List Batch) (hosts : ℕ → Host) (n : ℕ)
    (h : Host) → ((i : ℕ) → IsSoundHost accounts limit kept (hosts i))
    → IsSoundHost accounts limit kept h
    → (i : ℕ) → IsSoundHost accounts limit kept (with_host hosts n h i)
hosts_with accounts limit kept hosts n h all new i = by_test (i == n)
  where
    by_test : (b : Bool) → IsSoundHost accounts limit kept (if b then h else hosts i)
    by_test true = new
    by_test false = all i

one_host : (w : World) (n : ℕ) (h : Host) → IsSound w
    → IsSoundHost w.accounts w.limit w.kept h
    → IsSound (record w { hosts = with_host w.hosts n h })
one_host w n h sound new = record {
  start = sound.start;
  told = sound.told;
  sent = sound.sent;
  hosts = hosts_with w.accounts w.limit w.kept w.hosts n h sound.hosts new;
}

module _ (laws : IssuerLaws) where
  -- an answer that a beginning of the log gives is the one that the log gives
  whole : (accounts : List Account) (kept : List Batch) (n : ℕ) (t : Told)
      → IsAnswered accounts (orders_in (take n kept)) t → IsAnswered accounts (orders_in kept) t
  whole accounts kept n t h =
      subst (λ (l : List Instruction). IsAnswered accounts l t) (sym (split_at n kept))
      (stays laws accounts (orders_in (take n kept)) (orders_in (drop n kept)) t h)

  all_whole : (accounts : List Account) (kept : List Batch) (n : ℕ) (ts : List Told)
      → AllAnswered accounts (orders_in (take n kept)) ts
      → AllAnswered accounts (orders_in kept) ts
  all_whole accounts kept n ts h =
      subst (λ (l : List Instruction). AllAnswered accounts l ts) (sym (split_at n kept))
      (all_stay laws accounts (orders_in (take n kept)) (orders_in (drop n kept)) ts h)

  -- ---- an order comes

  decides_sound : (w : World) (h : Host) (o : Instruction)
      → IsSoundHost w.accounts w.limit w.kept h
      → IsSoundHost w.accounts w.limit w.kept (decides w h o)
  decides_sound w h o host =
      let before : IsSoundAlone (alone w h) =
      record { start = host.start; waiting = host.behind } in
      let after : IsSoundAlone (happens (alone w h) (Comes o)) =
      comes_sound laws (alone w h) o before in
      record {
        within = host.within;
        start = after.start;
        doubt = host.doubt;
        behind = after.waiting;
      }

  receives_sound : (w : World) (n : ℕ) (h : Host) (o : Instruction)
      → IsSoundHost w.accounts w.limit w.kept h → IsSound w → IsSound (receives w n h o)
  receives_sound w n h o host sound = by_test (is_entered (seen_by w h) o.key) refl
    where
      by_test : (known : Bool) → is_entered (seen_by w h) o.key ≡ known
          → IsSound (if known
          then record w { told = w.told ++ known_answer w h o ∷ [] }
          else record w { hosts = with_host w.hosts n (decides w h o) })
      by_test true k = record {
        start = sound.start;
        told = all-push (IsAnswered w.accounts (orders_in w.kept)) w.told _ sound.told
            (whole w.accounts w.kept h.seen _ (record { known = k; same = refl }));
        sent = sound.sent;
        hosts = sound.hosts;
      }
      by_test false k = one_host w n (decides w h o) sound (decides_sound w h o host)

  -- ---- a batch is sent, and arrives

  -- what it sends may follow what it has seen
  sends_follows : (w : World) (seen : ℕ) (doubt : Option Decisions) (behind : Decisions)
      → IsSoundHost w.accounts w.limit w.kept
      (record { seen = seen; in_doubt = doubt; behind = behind })
      → MayFollow w.limit w.kept seen (to_send doubt behind).orders
  sends_follows w seen None behind host = record {
    within = host.within;
    start = rw (append-nil (orders_in (take seen w.kept))) at host.start;
  }
  sends_follows w seen (Some d) behind host = record {
    within = host.within;
    start =
        laws.starts.front w.limit (orders_in (take seen w.kept) ++ d.orders) behind.orders
        host.start;
  }

  -- and it goes on to be sound
  sent_sound : (w : World) (seen : ℕ) (doubt : Option Decisions) (behind : Decisions)
      → IsSoundHost w.accounts w.limit w.kept
      (record { seen = seen; in_doubt = doubt; behind = behind })
      → IsSoundHost w.accounts w.limit w.kept
      (record {
        seen = seen;
        in_doubt = Some (to_send doubt behind);
        behind = left_behind doubt behind;
      })
  sent_sound w seen None behind host =
      let plain : orders_in (take seen w.kept) ++ [] ≡ orders_in (take seen w.kept) =
      append-nil (orders_in (take seen w.kept)) in
      record {
        within = host.within;
        start = rw (append-nil (orders_in (take seen w.kept) ++ behind.orders))
            (rw plain at host.start);
        doubt = rw plain at host.behind;
        behind = tt;
      }
  sent_sound w seen (Some d) behind host = host

  sends_sound : (w : World) (n : ℕ) (h : Host)
      → IsSoundHost w.accounts w.limit w.kept h → IsSound w → IsSound (sends w n h)
  sends_sound w n h host sound = record {
    start = sound.start;
    told = sound.told;
    sent = all-push (λ (b : Batch). MayFollow w.limit w.kept b.place b.orders) w.sent _ sound.sent
        (sends_follows w h.seen h.in_doubt h.behind host);
    hosts = hosts_with w.accounts w.limit w.kept w.hosts n _ sound.hosts
        (sent_sound w h.seen h.in_doubt h.behind host);
  }

  kept_sound : (w : World) (b : Batch) → b.place ≡ length w.kept
      → MayFollow w.limit w.kept b.place b.orders → IsSound w
      → IsSound (record w { kept = w.kept ++ b ∷ [] })
  kept_sound w b next follows sound =
      let all : orders_in (w.kept ++ b ∷ []) ≡ orders_in w.kept ++ b.orders =
      in_one_more w.kept b in
      let here : take b.place w.kept ≡ w.kept = take_all b.place w.kept (omega arith) in
      record {
        start = rw all (subst (λ (l : List Batch). IsStart w.limit (orders_in l ++ b.orders)) here
            follows.start);
        told = rw all (all_stay laws w.accounts (orders_in w.kept) b.orders w.told sound.told);
        sent = all_follow_on w.limit w.kept (b ∷ []) w.sent sound.sent;
        hosts = λ i. host_on w.accounts w.limit w.kept (b ∷ []) (w.hosts i) (sound.hosts i);
      }

  arrives_sound : (w : World) (f : Option Batch)
      → ((b : Batch) → f ≡ Some b → MayFollow w.limit w.kept b.place b.orders)
      → IsSound w → IsSound (arrives w f)
  arrives_sound w None follows sound = sound
  arrives_sound w (Some b) follows sound = by_test (b.place == length w.kept) refl
    where
      by_test : (c : Bool) → (b.place == length w.kept) ≡ c
          → IsSound (if c then record w { kept = w.kept ++ b ∷ [] } else w)
      by_test true e = kept_sound w b (grind (arith, nat_tests, e)) (follows b refl) sound
      by_test false e = sound

  -- ---- a host reads

  forgets_sound : (w : World) (n : ℕ) (h : Host) (b : Batch)
      → slice_get w.kept h.seen ≡ Some b → IsSound w → IsSound (forgets w n h)
  forgets_sound w n h b e sound =
      one_host w n (fresh (h.seen + 1)) sound
      (fresh_sound laws w.accounts w.limit w.kept (h.seen + 1)
      (omega (arith, slice_get_within w.kept h.seen b e)) sound.start)

  -- it finds the orders that it is in doubt of
  tells_sound : (w : World) (n seen : ℕ) (b : Batch) (d behind : Decisions)
      → slice_get w.kept seen ≡ Some b → d.orders ≡ b.orders
      → IsSoundHost w.accounts w.limit w.kept
      (record { seen = seen; in_doubt = Some d; behind = behind })
      → IsSound w
      → IsSound (tells w n (record { seen = seen; in_doubt = Some d; behind = behind }) d)
  tells_sound w n seen b d behind e own host sound =
      let now : orders_in (take seen w.kept) ++ d.orders ≡ orders_in (take (seen + 1) w.kept) =
      ap (λ (l : List Instruction). orders_in (take seen w.kept) ++ l) own
      ∙ sym (seen_more w.kept seen b e) in
      let here : orders_in (take seen w.kept) ++ d.orders
      ≡ orders_in (take (seen + 1) w.kept) ++ [] =
      now ∙ sym (append-nil (orders_in (take (seen + 1) w.kept))) in
      record {
        start = sound.start;
        told =
            all_append w.accounts (orders_in w.kept) w.told d.answers sound.told
            (all_whole w.accounts w.kept (seen + 1) d.answers
            (subst (λ (l : List Instruction). AllAnswered w.accounts l d.answers) now host.doubt));
        sent = sound.sent;
        hosts = hosts_with w.accounts w.limit w.kept w.hosts n _ sound.hosts (record {
          within = omega (arith, slice_get_within w.kept seen b e);
          start = subst (λ (l : List Instruction). IsStart w.limit (l ++ behind.orders)) here
              host.start;
          doubt = tt;
          behind =
              subst (λ (l : List Instruction).
              AllAnswered w.accounts (l ++ behind.orders) behind.answers) here host.behind;
        });
      }

  finds_sound : (w : World) (n seen : ℕ) (b : Batch) (doubt : Option Decisions) (behind : Decisions)
      → slice_get w.kept seen ≡ Some b
      → IsSoundHost w.accounts w.limit w.kept
      (record { seen = seen; in_doubt = doubt; behind = behind })
      → IsSound w
      → IsSound
      (finds w n (record { seen = seen; in_doubt = doubt; behind = behind }) b doubt)
  finds_sound w n seen b None behind e host sound =
      forgets_sound w n (record { seen = seen; in_doubt = None; behind = behind }) b e sound
  finds_sound w n seen b (Some d) behind e host sound = by_test (same_batch (batch_of n h) b) refl
    where
      h : Host
      h = record { seen = seen; in_doubt = Some d; behind = behind }

      by_test : (c : Bool) → same_batch (batch_of n h) b ≡ c
          → IsSound (if c then tells w n h d else forgets w n h)
      by_test false k = forgets_sound w n h b e sound
      by_test true k =
          let own : d.orders ≡ b.orders =
          ap (λ (x : Batch). x.orders) (same_batch_is laws (batch_of n h) b k) in
          tells_sound w n seen b d behind e own host sound

  reads_sound : (w : World) (n : ℕ) (h : Host) (f : Option Batch)
      → slice_get w.kept h.seen ≡ f → IsSoundHost w.accounts w.limit w.kept h
      → IsSound w → IsSound (reads w n h f)
  reads_sound w n h None e host sound = sound
  reads_sound w n h (Some b) e host sound =
      finds_sound w n h.seen b h.in_doubt h.behind e host sound

  -- ---- each event, and events one after another

  event_sound : (w : World) (e : Event) → IsSound w → IsSound (after_event w e)
  event_sound w (Receives n o) sound = receives_sound w n (w.hosts n) o (sound.hosts n) sound
  event_sound w (Sends n) sound = sends_sound w n (w.hosts n) (sound.hosts n) sound
  event_sound w (Arrives k) sound =
      arrives_sound w (slice_get w.sent k)
      (λ b e. all-at (λ (b : Batch). MayFollow w.limit w.kept b.place b.orders) w.sent k b
      sound.sent e) sound
  event_sound w (Reads n) sound =
      reads_sound w n (w.hosts n) (slice_get w.kept (w.hosts n).seen) refl (sound.hosts n) sound
  event_sound w (Restarts n seen) sound =
      one_host w n (fresh (min seen (length w.kept))) sound
      (fresh_sound laws w.accounts w.limit w.kept (min seen (length w.kept)) (omega arith)
      sound.start)

  pub events_sound : (es : List Event) (w : World) → IsSound w → IsSound (after_events es w)
  events_sound [] w sound = sound
  events_sound (e ∷ es) w sound = events_sound es (after_event w e) (event_sound w e sound)

pub begins_sound : (laws : IssuerLaws) (accounts : List Account) (limit : ℕ) (kept : List Batch)
    → IsStart limit (orders_in kept) → IsSound (log_begins accounts limit kept)
begins_sound laws accounts limit kept start = record {
  start = start;
  told = tt;
  sent = tt;
  hosts = λ n. fresh_sound laws accounts limit kept 0 (omega arith) start;
}
