-- What events of hosts over one log do to one of the hosts.
use Rattle.std.proofs.Common.{◌≡◌, ◌∙◌, ◌≤◌, ℕ, zero, suc, Bool, true, false, List, [], ◌∷◌, ◌++◌, length, append_assoc, length-append, refl, sym, ap, arith, eq-eqb}
use Rattle.std.specs.Prelude.{◌==◌, nat_le, if◌then◌else◌, Option, Some, None, slice_get, option_map}
use Rattle.std.specs.List.{list_any}
use Rattle.std.proofs.lemmas.Bool.{or_parts}
use Rattle.std.proofs.lemmas.Option.{slice_get-map}
use Rattle.std.proofs.lemmas.List.{length-map}
use Rattle.std.proofs.lemmas.List.Folds.{list_any-append}
use Rattle.iso_order.specs.Order.{Instruction}
use Rattle.iso_issuer.specs.Books.{journal}
use Rattle.iso_issuer.specs.Journal.{is_entered}
use Rattle.iso_issuer.specs.Decision.{answer_for}
use Rattle.iso_durable.specs.Durable.{books_of, entered}
use Rattle.iso_durable.specs.World.{Told}
use Rattle.iso_hosts.specs.World.{World, Batch, Decisions, Host, seen_by, doubted, host_at, nothing, with_host, known_answer, decides, to_send, left_behind, arrives, same_batch, tells, forgets, finds, reads, after_event, after_events}
use Rattle.iso_hosts.specs.World.{batch_of as sent_batch, Event, Receives, Sends, Arrives, Reads, Restarts}
use Rattle.iso_hosts.specs.Laws.{OthersLeaveIt, LogOnlyGrows, OwnIsTold, ReadsOn, FencedSaysNothingNew}
use Rattle.iso_shared.specs.Kept.{batch_of, batches_of}
use Rattle.iso_shared.specs.Hosts.{Knows, AreOfOthers}

-- what the law of hosts over one log says
pub record HostLaws : Type 0 where
  pub others : OthersLeaveIt
  pub grow : LogOnlyGrows
  pub own : OwnIsTold
  pub reads : ReadsOn
  pub fenced : FencedSaysNothingNew

pub self_same : (n : ℕ) → (n == n) ≡ true
self_same n = eq-eqb n n refl

-- ---- what stays

-- the accounts and the limit
same_books : (w : World) (e : Event) → ((after_event w e).accounts ≡ w.accounts) × ((after_event w e).limit ≡ w.limit)
same_books w (Receives n o) = by_test (is_entered (seen_by w (w.hosts n)) o.key)
  where
    a : World
    a = record w { told = w.told ++ known_answer w (w.hosts n) o ∷ [] }

    b : World
    b = record w { hosts = with_host w.hosts n (decides w (w.hosts n) o) }

    by_test : (t : Bool) → ((if t then a else b).accounts ≡ w.accounts) × ((if t then a else b).limit ≡ w.limit)
    by_test true = (refl, refl)
    by_test false = (refl, refl)
same_books w (Sends n) = (refl, refl)
same_books w (Arrives k) = by_batch (slice_get w.sent k)
  where
    by_batch : (f : Option Batch) → ((arrives w f).accounts ≡ w.accounts) × ((arrives w f).limit ≡ w.limit)
    by_batch None = (refl, refl)
    by_batch (Some b) = by_test (b.place == length w.kept)
      where
        by_test : (t : Bool) → ((if t then record w { kept = w.kept ++ b ∷ [] } else w).accounts ≡ w.accounts) × ((if t then record w { kept = w.kept ++ b ∷ [] } else w).limit ≡ w.limit)
        by_test true = (refl, refl)
        by_test false = (refl, refl)
same_books w (Reads n) = by_batch (slice_get w.kept (w.hosts n).seen)
  where
    by_doubt : (b : Batch) (doubt : Option Decisions) → ((finds w n (w.hosts n) b doubt).accounts ≡ w.accounts) × ((finds w n (w.hosts n) b doubt).limit ≡ w.limit)
    by_doubt b None = (refl, refl)
    by_doubt b (Some d) = by_test (same_batch (sent_batch n (w.hosts n)) b)
      where
        by_test : (t : Bool) → ((if t then tells w n (w.hosts n) d else forgets w n (w.hosts n)).accounts ≡ w.accounts) × ((if t then tells w n (w.hosts n) d else forgets w n (w.hosts n)).limit ≡ w.limit)
        by_test true = (refl, refl)
        by_test false = (refl, refl)

    by_batch : (f : Option Batch) → ((reads w n (w.hosts n) f).accounts ≡ w.accounts) × ((reads w n (w.hosts n) f).limit ≡ w.limit)
    by_batch None = (refl, refl)
    by_batch (Some b) = by_doubt b (w.hosts n).in_doubt
same_books w (Restarts n seen) = (refl, refl)

pub same_books_all : (es : List Event) (w : World) → ((after_events es w).accounts ≡ w.accounts) × ((after_events es w).limit ≡ w.limit)
same_books_all [] w = (refl, refl)
same_books_all (e ∷ es) w =
    let rest = same_books_all es (after_event w e) in
    let one = same_books w e in
    (rest.0 ∙ one.0, rest.1 ∙ one.1)

-- who reads keeps the log
pub reads_keep : (w : World) (n : ℕ) → (after_event w (Reads n)).kept ≡ w.kept
reads_keep w n = by_batch (slice_get w.kept (w.hosts n).seen)
  where
    by_doubt : (b : Batch) (doubt : Option Decisions) → (finds w n (w.hosts n) b doubt).kept ≡ w.kept
    by_doubt b None = refl
    by_doubt b (Some d) = by_test (same_batch (sent_batch n (w.hosts n)) b)
      where
        by_test : (t : Bool) → (if t then tells w n (w.hosts n) d else forgets w n (w.hosts n)).kept ≡ w.kept
        by_test true = refl
        by_test false = refl

    by_batch : (f : Option Batch) → (reads w n (w.hosts n) f).kept ≡ w.kept
    by_batch None = refl
    by_batch (Some b) = by_doubt b (w.hosts n).in_doubt

-- ---- what a store is known to keep

pub knows_more : (w v : World) (kept : List (List ℕ)) (more : List Batch) → v.kept ≡ w.kept ++ more → Knows w kept → Knows v kept
knows_more w v kept more e knows =
    (knows.0 ++ more, e ∙ ap (λ (l : List Batch). l ++ more) knows.1 ∙ append_assoc (batches_of kept) knows.0 more)

pub knows_same : (w v : World) (kept : List (List ℕ)) → v.kept ≡ w.kept → Knows w kept → Knows v kept
knows_same w v kept e knows = (knows.0, e ∙ knows.1)

pub within_kept : (w : World) (kept : List (List ℕ)) (n : ℕ) → Knows w kept → n ≤ length kept → n ≤ length w.kept
within_kept w kept n knows le =
    omega (arith, le, ap length knows.1, length-append (batches_of kept) knows.0, length-map kept batch_of)

at_more : (xs ys : List Batch) (i : ℕ) (x : Batch) → slice_get xs i ≡ Some x → slice_get (xs ++ ys) i ≡ Some x
at_more [] ys i x h = cc
at_more (y ∷ xs) ys zero x h = h
at_more (y ∷ xs) ys (suc i) x h = at_more xs ys i x h

-- what is kept at a place
pub known_at : (w : World) (kept : List (List ℕ)) (i : ℕ) (bytes : List ℕ) → Knows w kept → slice_get kept i ≡ Some bytes → slice_get w.kept i ≡ Some (batch_of bytes)
known_at w kept i bytes knows at =
    ap (λ (l : List Batch). slice_get l i) knows.1
    ∙ at_more (batches_of kept) knows.0 i (batch_of bytes) (slice_get-map batch_of kept i ∙ ap (option_map batch_of) at)

-- ---- what others do

module _ (laws : HostLaws) where
  pub others_leave : (es : List Event) (w : World) (n : ℕ) → (w.hosts n).seen ≤ length w.kept → AreOfOthers n es
      → ((after_events es w).hosts n ≡ w.hosts n) × (host_at (after_events es w) n ≡ host_at w n)
  others_leave [] w n le are = (refl, refl)
  others_leave (e ∷ es) w n le are =
      let one = laws.others w n e le are.0 in
      let more = laws.grow w (e ∷ []) in
      let seen : ((after_event w e).hosts n).seen ≡ (w.hosts n).seen = ap (λ (h : Host). h.seen) one.0 in
      let still : ((after_event w e).hosts n).seen ≤ length (after_event w e).kept =
      omega (arith, le, seen, ap length more.1, length-append w.kept more.0) in
      let rest = others_leave es (after_event w e) n still are.1 in
      (rest.0 ∙ one.0, rest.1 ∙ one.1)

  pub knows_on : (es : List Event) (w : World) (kept : List (List ℕ)) → Knows w kept → Knows (after_events es w) kept
  knows_on es w kept knows = let more = laws.grow w es in knows_more w (after_events es w) kept more.0 more.1 knows

-- ---- an order that is new comes

any_front : {X : Type 0} (f : X → Bool) (xs ys : List X) → list_any f (xs ++ ys) ≡ false → list_any f xs ≡ false
any_front f xs ys h = (or_parts (list_any f xs) (list_any f ys) (sym (list_any-append f xs ys) ∙ h)).0

new_seen : (w : World) (n : ℕ) (o : Instruction) → is_entered (entered (host_at w n)) o.key ≡ false → is_entered (seen_by w (w.hosts n)) o.key ≡ false
new_seen w n o new =
    any_front _ (seen_by w (w.hosts n)) (doubted (w.hosts n).in_doubt)
    (any_front _ (seen_by w (w.hosts n) ++ doubted (w.hosts n).in_doubt) (w.hosts n).behind.orders new)

-- the answer that the host's books give
abbrev pub made_told : World → ℕ → Instruction → Told
made_told w n o = record { order = o; answer = answer_for w.accounts (journal (books_of (host_at w n))) o }

-- the host with that order and that answer behind
abbrev pub host_with : World → ℕ → Instruction → Host
host_with w n o = record {
  seen = (w.hosts n).seen;
  in_doubt = (w.hosts n).in_doubt;
  behind = record {
    orders = (w.hosts n).behind.orders ++ o ∷ [];
    answers = (w.hosts n).behind.answers ++ made_told w n o ∷ [];
  };
}

decides_new : (w : World) (n : ℕ) (o : Instruction) → is_entered (entered (host_at w n)) o.key ≡ false → nat_le w.limit (length (entered (host_at w n))) ≡ false
    → decides w (w.hosts n) o ≡ host_with w n o
decides_new w n o new room = rw (new, room) refl

pub receives_new : (w : World) (n : ℕ) (o : Instruction) → is_entered (entered (host_at w n)) o.key ≡ false → nat_le w.limit (length (entered (host_at w n))) ≡ false
    → after_event w (Receives n o) ≡ record w { hosts = with_host w.hosts n (host_with w n o) }
receives_new w n o new room = by_test (is_entered (seen_by w (w.hosts n)) o.key) (new_seen w n o new)
  where
    by_test : (t : Bool) → t ≡ false → (if t then record w { told = w.told ++ known_answer w (w.hosts n) o ∷ [] } else record w { hosts = with_host w.hosts n (decides w (w.hosts n) o) })
        ≡ record w { hosts = with_host w.hosts n (host_with w n o) }
    by_test true e = cc
    by_test false e = ap (λ (h : Host). record w { hosts = with_host w.hosts n h }) (decides_new w n o new room)

pub host_there : (hosts : ℕ → Host) (n : ℕ) (h : Host) → with_host hosts n h n ≡ h
host_there hosts n h = rw (self_same n) refl

-- ---- its batch is sent

-- a host that sent what it decided
abbrev pub sent_host : Host → Host
sent_host h = record { seen = h.seen; in_doubt = Some h.behind; behind = nothing }

pub sends_host : (w : World) (n : ℕ) → (w.hosts n).in_doubt ≡ None → (after_event w (Sends n)).hosts n ≡ sent_host (w.hosts n)
sends_host w n certain =
    host_there w.hosts n _
    ∙ ap (λ (d : Option Decisions). record {
      seen = (w.hosts n).seen;
      in_doubt = Some (to_send d (w.hosts n).behind);
      behind = left_behind d (w.hosts n).behind;
    }) certain
