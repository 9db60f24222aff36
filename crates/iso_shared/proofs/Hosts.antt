-- The calls of a log are events of its host, among those of others.
use Rattle.std.proofs.Common.{◌≡◌, ◌∙◌, ◌≤◌, ◌<◌, ℕ, ◌+◌, ◌-◌, Bool, true, false, List, [], ◌∷◌, ◌++◌, length, append-nil, refl, sym, ap, subst, arith}
use Rattle.std.specs.Prelude.{nat_le, min, Option, Some, None, slice_get}
use Rattle.std.specs.List.{AllByRecursion}
use Rattle.std.proofs.lemmas.List.{map-append}
use Rattle.std.proofs.lemmas.Option.{slice_get_within}
use Rattle.iso_order.specs.Order.{Instruction}
use Rattle.iso_issuer.specs.Books.{Books, journal}
use Rattle.iso_issuer.specs.Journal.{is_entered}
use Rattle.iso_issuer.specs.Decision.{answer_for}
use Rattle.iso_durable.specs.Durable.{books_of, entered}
use Rattle.iso_durable.specs.World.{Told, IsAnswered}
use Rattle.iso_record.specs.declared.row.Row.{Row}
use Rattle.iso_hosts.specs.World.{World, Batch, Decisions, Host, seen_by, doubted, host_at, nothing, fresh, orders_in, to_send, with_host, after_event, after_events, log_begins}
use Rattle.iso_hosts.specs.World.{batch_of as sent_batch, Event, Receives, Sends, Reads}
use Rattle.iso_hosts.specs.Laws.{IsInDoubtOf, NoHostIsWrong}
use Rattle.iso_shared.specs.declared.log.SharedLog.{SharedLog}
use Rattle.iso_shared.specs.declared.standby.Standby.{Standby}
use Rattle.iso_shared.specs.Batch.{BatchesComeBack}
use Rattle.iso_shared.specs.Kept.{writer_number, orders_of, seen_as, batch_of}
use Rattle.iso_shared.specs.Log.{made, made_bytes, is_full, IsReady}
use Rattle.iso_shared.specs.Steps.{Sends as SendsLog, FlushesBy}
use Rattle.iso_shared.specs.Hosts.{Knows, told_of, IsHost, AreOfOthers, OthersLeaveLogs, SendsItsBatch, IsDecided, before_adding, adding, told_by, AppendsAreEvents, before_flushing, flushing, SyncsAreEvents, SyncsTellTheLog, StartsAreRestarts, ReadingIsAnEvent, ReadersBecomeHosts}
use Rattle.iso_shared.proofs.Logs.{Joins, filed_is, adds_ready, flushes_ready}
use Rattle.iso_shared.proofs.Events.{HostLaws, same_books_all, reads_keep, knows_same, knows_on, within_kept, known_at, others_leave, receives_new, made_told, host_with, host_there, sent_host, sends_host}

-- ---- what one host receives

one_told : (row : Row) (rows : List Row) → told_of (rows ++ row ∷ []) ≡ told_of rows ++ record { order = row.order; answer = row.answer } ∷ []
one_told row rows = map-append (λ (r : Row). record { order = r.order; answer = r.answer }) rows (row ∷ [])

one_order : (row : Row) (rows : List Row) → orders_of (rows ++ row ∷ []) ≡ orders_of rows ++ row.order ∷ []
one_order row rows = map-append (λ (r : Row). r.order) rows (row ∷ [])

-- the host receives an order that its books answer so
module _ (w : World) (n : ℕ) (row : Row) (is : IsDecided w n row) where
  abbrev r : World
  r = after_event w (Receives n row.order)

  received : r ≡ record w { hosts = with_host w.hosts n (host_with w n row.order) }
  received = receives_new w n row.order is.new is.room

  received_host : r.hosts n ≡ host_with w n row.order
  received_host = ap (λ (x : World). x.hosts n) received ∙ host_there w.hosts n (host_with w n row.order)

  same_told : made_told w n row.order ≡ record { order = row.order; answer = row.answer }
  same_told = ap (λ a. record { order = row.order; answer = a }) (sym is.answer_is)

  received_orders : (r.hosts n).behind.orders ≡ (w.hosts n).behind.orders ++ row.order ∷ []
  received_orders = ap (λ (h : Host). h.behind.orders) received_host

  received_answers : (r.hosts n).behind.answers ≡ (w.hosts n).behind.answers ++ record { order = row.order; answer = row.answer } ∷ []
  received_answers =
      ap (λ (h : Host). h.behind.answers) received_host
      ∙ ap (λ (t : Told). (w.hosts n).behind.answers ++ t ∷ []) same_told

decided_by : (w v : World) (n : ℕ) (row : Row) → books_of (host_at v n) ≡ books_of (host_at w n) → IsDecided w n row → IsDecided v n row
decided_by w v n row same is = record {
  new = ap (λ (b : Books). is_entered b.orders row.order.key) same ∙ is.new;
  room = ap (λ (b : Books). nat_le b.limit (length b.orders)) same ∙ is.room;
  answer_is = is.answer_is ∙ sym (ap (λ (b : Books). answer_for b.accounts (journal b) row.order) same);
}

-- events behind events
events_both : (xs ys : List Event) (w : World) → after_events (xs ++ ys) w ≡ after_events ys (after_events xs w)
events_both [] ys w = refl
events_both (e ∷ xs) ys w = events_both xs ys (after_event w e)

-- what holds of all holds of those behind
all_back : (P : Told → Type 0) (xs ys : List Told) → AllByRecursion P (xs ++ ys) → AllByRecursion P ys
all_back P [] ys h = h
all_back P (x ∷ xs) ys h = all_back P xs ys h.1

-- ---- the calls of a log

module _ (laws : HostLaws) (back : BatchesComeBack) {S P : Type 0} (kept sent : S → List (List ℕ)) where
  seen_within : (w : World) (n : ℕ) (log : SharedLog S P) → IsHost kept w n log → (w.hosts n).seen ≤ length w.kept
  seen_within w n log is = omega (arith, is.seen, within_kept w (kept log.store) log.seen is.knows is.ready.known)

  pub others_leave_logs : (log : SharedLog S P) → OthersLeaveLogs kept log
  others_leave_logs log w n es is are =
      let same = (others_leave laws es w n (seen_within w n log is) are).0 in
      record {
        knows = knows_on laws es w (kept log.store) is.knows;
        ready = is.ready;
        number = is.number;
        seen = ap (λ (h : Host). h.seen) same ∙ is.seen;
        certain = ap (λ (h : Host). h.in_doubt) same ∙ is.certain;
        orders = ap (λ (h : Host). h.behind.orders) same ∙ is.orders;
        answers = ap (λ (h : Host). h.behind.answers) same ∙ is.answers;
      }

  pub sends_its_batch : (log : SharedLog S P) → SendsItsBatch kept log
  sends_its_batch log w n is filed =
      let place : log.seen + 1 - 1 ≡ (w.hosts n).seen = omega (arith, is.seen) in
      filed_is back (made log) filed
      ∙ ap (λ (p : ℕ). record { place = p; writer = writer_number log.writer; orders = orders_of log.rows.items }) place
      ∙ ap (λ (m : ℕ). record { place = (w.hosts n).seen; writer = m; orders = orders_of log.rows.items }) is.number
      ∙ ap (λ (l : List Instruction). record { place = (w.hosts n).seen; writer = n; orders = l }) (sym is.orders)
      ∙ sym (ap (λ (d : Option Decisions). record { place = (w.hosts n).seen; writer = n; orders = (to_send d (w.hosts n).behind).orders }) is.certain)

  -- ---- a batch is sent, arrives among what others do, and is read

  -- where the host has sent and others went on
  module _ (old new : SharedLog S P) (left : List Row) (w : World) (n : ℕ) (es : List Event)
      (is : IsHost kept w n old) (step : SendsLog kept sent old new left) (are : AreOfOthers n es) where
    abbrev v : World
    v = after_events es (after_event w (Sends n))

    abbrev u : World
    u = after_event v (Reads n)

    sent_there : (after_event w (Sends n)).hosts n ≡ sent_host (w.hosts n)
    sent_there = sends_host w n is.certain

    sent_within : ((after_event w (Sends n)).hosts n).seen ≤ length (after_event w (Sends n)).kept
    sent_within = omega (arith, ap (λ (h : Host). h.seen) sent_there, seen_within w n old is)

    left_there : (v.hosts n ≡ (after_event w (Sends n)).hosts n) × (host_at v n ≡ host_at (after_event w (Sends n)) n)
    left_there = others_leave laws es (after_event w (Sends n)) n sent_within are

    there : v.hosts n ≡ sent_host (w.hosts n)
    there = left_there.0 ∙ sent_there

    -- the batch that it sent is that of the log
    same_sent : seen_as (made old) ≡ sent_batch n (sent_host (w.hosts n))
    same_sent =
        let place : old.seen + 1 - 1 ≡ (w.hosts n).seen = omega (arith, is.seen) in
        ap (λ (p : ℕ). record { place = p; writer = writer_number old.writer; orders = orders_of old.rows.items }) place
        ∙ ap (λ (m : ℕ). record { place = (w.hosts n).seen; writer = m; orders = orders_of old.rows.items }) is.number
        ∙ ap (λ (l : List Instruction). record { place = (w.hosts n).seen; writer = n; orders = l }) (sym is.orders)

    found : Knows v (kept new.store) → slice_get v.kept (v.hosts n).seen ≡ Some (sent_batch n (v.hosts n))
    found knows =
        let here : (v.hosts n).seen ≡ old.seen = ap (λ (h : Host). h.seen) there ∙ is.seen in
        ap (λ (i : ℕ). slice_get v.kept i) here
        ∙ known_at v (kept new.store) old.seen (made_bytes old) knows step.stands
        ∙ ap (λ (b : Batch). Some b) (filed_is back (made old) step.filed ∙ same_sent ∙ ap (sent_batch n) (sym there))

    doubted_there : (v.hosts n).in_doubt ≡ Some (w.hosts n).behind
    doubted_there = ap (λ (h : Host). h.in_doubt) there

    told_there : Knows v (kept new.store) → u.told ≡ v.told ++ told_of old.rows.items
    told_there knows =
        (laws.own v n (w.hosts n).behind doubted_there (found knows)).0 ∙ ap (λ (l : List Told). v.told ++ l) is.answers

    host_then : Knows v (kept new.store) → u.hosts n ≡ record { seen = (w.hosts n).seen + 1; in_doubt = None; behind = nothing }
    host_then knows =
        (laws.own v n (w.hosts n).behind doubted_there (found knows)).1
        ∙ ap (λ (h : Host). record { seen = h.seen + 1; in_doubt = None; behind = h.behind }) there

    -- the books stay the same
    entered_then : Knows v (kept new.store) → entered (host_at u n) ≡ entered (host_at w n)
    entered_then knows =
        let h = w.hosts n in
        let s = seen_by v (v.hosts n) in
        let after : entered (host_at u n) ≡ seen_by u (u.hosts n) =
        ap (λ (x : Host). (seen_by u (u.hosts n) ++ doubted x.in_doubt) ++ x.behind.orders) (host_then knows)
        ∙ append-nil (seen_by u (u.hosts n) ++ []) ∙ append-nil (seen_by u (u.hosts n)) in
        let read : seen_by u (u.hosts n) ≡ s ++ h.behind.orders =
        laws.reads v n (sent_batch n (v.hosts n)) (found knows)
        ∙ ap (λ (x : Host). s ++ (sent_batch n x).orders) there in
        let before : entered (host_at v n) ≡ s ++ h.behind.orders =
        ap (λ (x : Host). (s ++ doubted x.in_doubt) ++ x.behind.orders) there ∙ append-nil (s ++ h.behind.orders) in
        let sending : entered (host_at (after_event w (Sends n)) n) ≡ seen_by w h ++ h.behind.orders =
        ap (λ (x : Host). (seen_by (after_event w (Sends n)) x ++ doubted x.in_doubt) ++ x.behind.orders) sent_there ∙ append-nil (seen_by w h ++ h.behind.orders) in
        let first : entered (host_at w n) ≡ seen_by w h ++ h.behind.orders =
        ap (λ (d : Option Decisions). (seen_by w h ++ doubted d) ++ h.behind.orders) is.certain
        ∙ ap (λ (l : List Instruction). l ++ h.behind.orders) (append-nil (seen_by w h)) in
        after ∙ read ∙ sym before ∙ ap entered left_there.1 ∙ sending ∙ sym first

    same_then : (u.accounts ≡ w.accounts) × (u.limit ≡ w.limit)
    same_then =
        let one = same_books_all (Reads n ∷ []) v in
        let more = same_books_all es (after_event w (Sends n)) in
        (one.0 ∙ more.0, one.1 ∙ more.1)

    books_then : Knows v (kept new.store) → books_of (host_at u n) ≡ books_of (host_at w n)
    books_then knows =
        let same = same_then in
        ap (λ a. record { accounts = a; limit = u.limit; orders = entered (host_at u n) }) same.0
        ∙ ap (λ l. record { accounts = w.accounts; limit = l; orders = entered (host_at u n) }) same.1
        ∙ ap (λ (os : List Instruction). record { accounts = w.accounts; limit = w.limit; orders = os }) (entered_then knows)

  -- ---- a sync

  flush_by : (old new : SharedLog S P) (rows : List Row) → rows ≡ old.rows.items → (w : World) (n : ℕ) (es : List Event)
      → IsHost kept w n old → FlushesBy kept sent rows old new → IsReady kept new → AreOfOthers n es
      → Knows (after_events (before_flushing n rows es) w) (kept new.store)
      → IsHost kept (after_events (flushing n rows) (after_events (before_flushing n rows es) w)) n new
      × ((after_events (flushing n rows) (after_events (before_flushing n rows es) w)).told
      ≡ (after_events (before_flushing n rows es) w).told ++ told_of rows)
  flush_by old new [] e w n es is holds ready are knows =
      let same = (others_leave laws es w n (seen_within w n old is) are).0 in (
        record {
          knows = knows;
          ready = ready;
          number = ap writer_number holds.writer ∙ is.number;
          seen = ap (λ (h : Host). h.seen) same ∙ is.seen ∙ sym holds.seen;
          certain = ap (λ (h : Host). h.in_doubt) same ∙ is.certain;
          orders = ap (λ (h : Host). h.behind.orders) same ∙ is.orders ∙ ap orders_of (sym e ∙ sym holds.rows);
          answers = ap (λ (h : Host). h.behind.answers) same ∙ is.answers ∙ ap told_of (sym e ∙ sym holds.rows);
        },
        sym (append-nil (after_events es w).told),
      )
  flush_by old new (r ∷ rs) e w n es is step ready are knows =
      let later = host_then old new [] w n es is step are knows in (
        record {
          knows = knows_same (v old new [] w n es is step are) (u old new [] w n es is step are) (kept new.store) (reads_keep (v old new [] w n es is step are) n) knows;
          ready = ready;
          number = ap writer_number step.writer ∙ is.number;
          seen = ap (λ (h : Host). h.seen) later ∙ ap (λ (i : ℕ). i + 1) is.seen ∙ sym step.seen;
          certain = ap (λ (h : Host). h.in_doubt) later;
          orders = ap (λ (h : Host). h.behind.orders) later ∙ ap orders_of (sym step.rows);
          answers = ap (λ (h : Host). h.behind.answers) later ∙ ap told_of (sym step.rows);
        },
        told_there old new [] w n es is step are knows ∙ ap (λ (l : List Row). (v old new [] w n es is step are).told ++ told_of l) (sym e),
      )

  pub syncs_are_events : (old new : SharedLog S P) → SyncsAreEvents kept sent old new
  syncs_are_events old new w n es is step are knows =
      flush_by old new old.rows.items refl w n es is step.steps (flushes_ready kept sent old new back is.ready step) are knows

  pub syncs_tell_the_log : NoHostIsWrong → (old new : SharedLog S P) → SyncsTellTheLog kept sent old new
  syncs_tell_the_log right old new accounts limit begun before others n start is step are knows =
      let start_world = log_begins accounts limit begun in
      let w = after_events before start_world in
      let first = before_flushing n old.rows.items others in
      let second = flushing n old.rows.items in
      let v = after_events first w in
      let u = after_events second v in
      let told : u.told ≡ v.told ++ told_of old.rows.items = (syncs_are_events old new w n others is step are knows).1 in
      let whole : after_events (before ++ (first ++ second)) start_world ≡ u =
      events_both before (first ++ second) start_world ∙ events_both first second w in
      let all : AllByRecursion (IsAnswered accounts (orders_in u.kept)) u.told =
      subst (λ (x : World). AllByRecursion (IsAnswered accounts (orders_in x.kept)) x.told) whole (right accounts limit begun (before ++ (first ++ second)) start) in
      all_back (IsAnswered accounts (orders_in u.kept)) v.told (told_of old.rows.items)
      (subst (AllByRecursion (IsAnswered accounts (orders_in u.kept))) told all)

  -- ---- an order is added

  append_by : (old new : SharedLog S P) (full : Bool) (w : World) (n : ℕ) (row : Row) (es : List Event)
      → IsHost kept w n old → Joins kept sent old new full row → IsReady kept new → IsDecided w n row → AreOfOthers n es
      → Knows (after_events (before_adding n full es) w) (kept new.store)
      → IsHost kept (after_events (adding n full row.order) (after_events (before_adding n full es) w)) n new
      × ((after_events (adding n full row.order) (after_events (before_adding n full es) w)).told
      ≡ (after_events (before_adding n full es) w).told ++ told_by full old.rows.items)
  append_by old new true w n row es is step ready decided are knows =
      let v = v old new (row ∷ []) w n es is step are in
      let u = u old new (row ∷ []) w n es is step are in
      let later = host_then old new (row ∷ []) w n es is step are knows in
      let d = decided_by w u n row (books_then old new (row ∷ []) w n es is step are knows) decided in
      let got = received u n row d in
      let host = received_host u n row d in (
        record {
          knows = knows_same v (after_event u (Receives n row.order)) (kept new.store) (ap (λ (x : World). x.kept) got ∙ reads_keep v n) knows;
          ready = ready;
          number = ap writer_number step.writer ∙ is.number;
          seen = ap (λ (h : Host). h.seen) host ∙ ap (λ (h : Host). h.seen) later ∙ ap (λ (i : ℕ). i + 1) is.seen ∙ sym step.seen;
          certain = ap (λ (h : Host). h.in_doubt) host ∙ ap (λ (h : Host). h.in_doubt) later;
          orders =
              received_orders u n row d ∙ ap (λ (h : Host). h.behind.orders ++ row.order ∷ []) later ∙ ap orders_of (sym step.rows);
          answers =
              received_answers u n row d ∙ ap (λ (h : Host). h.behind.answers ++ record { order = row.order; answer = row.answer } ∷ []) later
              ∙ ap told_of (sym step.rows);
        },
        ap (λ (x : World). x.told) got ∙ told_there old new (row ∷ []) w n es is step are knows,
      )
  append_by old new false w n row es is holds ready decided are knows =
      let v = after_events es w in
      let left = others_leave laws es w n (seen_within w n old is) are in
      let same : books_of (host_at v n) ≡ books_of (host_at w n) = ap books_of left.1 in
      let d = decided_by w v n row same decided in
      let got = received v n row d in
      let host = received_host v n row d in (
        record {
          knows = knows_same v (after_event v (Receives n row.order)) (kept new.store) (ap (λ (x : World). x.kept) got) knows;
          ready = ready;
          number = ap writer_number holds.writer ∙ is.number;
          seen = ap (λ (h : Host). h.seen) host ∙ ap (λ (h : Host). h.seen) left.0 ∙ is.seen ∙ sym holds.seen;
          certain = ap (λ (h : Host). h.in_doubt) host ∙ ap (λ (h : Host). h.in_doubt) left.0 ∙ is.certain;
          orders =
              received_orders v n row d
              ∙ ap (λ (l : List Instruction). l ++ row.order ∷ []) (ap (λ (h : Host). h.behind.orders) left.0 ∙ is.orders)
              ∙ sym (one_order row old.rows.items) ∙ ap orders_of (sym holds.rows);
          answers =
              received_answers v n row d
              ∙ ap (λ (l : List Told). l ++ record { order = row.order; answer = row.answer } ∷ []) (ap (λ (h : Host). h.behind.answers) left.0 ∙ is.answers)
              ∙ sym (one_told row old.rows.items) ∙ ap told_of (sym holds.rows);
        },
        ap (λ (x : World). x.told) got ∙ sym (append-nil v.told),
      )

  pub appends_are_events : (old new : SharedLog S P) → AppendsAreEvents kept sent old new
  appends_are_events old new w n row es is step decided are knows =
      append_by old new (is_full old) w n row es is step.steps (adds_ready kept sent old new back row is.ready step) decided are knows

  -- ---- a start, and reading on

  pub readers_become_hosts : (standby : Standby S) (log : SharedLog S P) → ReadersBecomeHosts kept standby log
  readers_become_hosts standby log w n is number store seen synced rows =
      let e : kept log.store ≡ kept standby.store = ap kept store in
      record {
        knows = subst (Knows w) (sym e) is.knows;
        ready = record { known = omega (arith, is.known, seen, ap length e); behind = omega (arith, synced, seen) };
        number = number;
        seen = ap (λ (h : Host). h.seen) is.host ∙ sym seen;
        certain = ap (λ (h : Host). h.in_doubt) is.host;
        orders = ap (λ (h : Host). h.behind.orders) is.host ∙ ap orders_of (sym rows);
        answers = ap (λ (h : Host). h.behind.answers) is.host ∙ ap told_of (sym rows);
      }

module _ (laws : HostLaws) {S : Type 0} (kept : S → List (List ℕ)) where
  pub starts_are_restarts : (standby : Standby S) → StartsAreRestarts kept standby
  starts_are_restarts standby w n knows le = record {
    knows = knows;
    known = le;
    host =
        host_there w.hosts n (fresh (min standby.seen (length w.kept)))
        ∙ ap fresh (least standby.seen (length w.kept) (within_kept w (kept standby.store) standby.seen knows le));
  }
    where
      least : (a b : ℕ) → a ≤ b → min a b ≡ a
      least a b le = omega (arith, le)

  not_in_doubt : (n : ℕ) (h : Host) (b : Batch) (seen : ℕ) → h ≡ fresh seen → IsInDoubtOf n h b → ⊥
  not_in_doubt n h b seen e doubt = let none : h.in_doubt ≡ None = ap (λ (x : Host). x.in_doubt) e in cc (sym none ∙ doubt.1)

  pub reading_is_an_event : (old new : Standby S) → ReadingIsAnEvent kept old new
  reading_is_an_event old new w n is takes knows =
      let here : (w.hosts n).seen ≡ old.seen = ap (λ (h : Host). h.seen) is.host in
      let found : slice_get w.kept (w.hosts n).seen ≡ Some (batch_of takes.bytes) =
      ap (λ (i : ℕ). slice_get w.kept i) here ∙ known_at w (kept new.store) old.seen takes.bytes knows takes.stands in
      let read = laws.fenced w n (batch_of takes.bytes) found (not_in_doubt n (w.hosts n) (batch_of takes.bytes) old.seen is.host) in (
        record {
          knows = knows_same w (after_event w (Reads n)) (kept new.store) (reads_keep w n) knows;
          known = omega (arith, takes.seen, within (kept new.store) old.seen takes.bytes takes.stands);
          host = read.1 ∙ ap (λ (i : ℕ). fresh (i + 1)) here ∙ ap fresh (sym takes.seen);
        },
        read.0,
      )
    where
      within : (xs : List (List ℕ)) (i : ℕ) (x : List ℕ) → slice_get xs i ≡ Some x → i < length xs
      within xs i x e = slice_get_within xs i x e
