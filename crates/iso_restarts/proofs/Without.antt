-- Each run with crashes of the acquirer is a run without: each event of the one is followed by events of the other.
use Rattle.std.proofs.Common.{◌≡◌, ℕ, Bool, true, false, refl, ap, sym, subst, List, [], ◌∷◌, ◌++◌, length, take, cond, append-nil}
use Rattle.std.specs.Prelude.{Option, Some, None, Result, Ok, Err, slice_get, nat_lt, ◌==◌}
use Rattle.std.specs.List.{AllByRecursion}
use Rattle.iso_order.specs.Pan.{AccountNumber}
use Rattle.iso_order.specs.Order.{Instruction}
use Rattle.iso_durable.specs.Durable.{comes}
use Rattle.iso_issuer.specs.declared.account.Account.{Account}
use Rattle.iso_acquirer.specs.declared.event.Event.{Event as Passing}
use Rattle.iso_acquirer.specs.declared.event.Event.TheVariants.{Begin, Timeout, Deliver, Answer, Other}
use Rattle.iso_acquirer.specs.declared.event.Given.{Given}
use Rattle.iso_acquirer.specs.declared.fault.AcqFault.{AcqFault}
use Rattle.iso_acquirer.specs.declared.slot.Slot.{Slot}
use Rattle.iso_acquirer.specs.Acquirer.{Party, debit_of, timeout}
use Rattle.iso_acquirer.specs.Runs.{CanHappen as CanPass}
use Rattle.iso_outages.specs.World.{World as Ends, Event as Outage, Passes, Syncs, Crashes, receives, receives_other}
use Rattle.iso_outages.specs.World.{happens as goes}
use Rattle.iso_outages.specs.Laws.{CanHappen as CanGo}
use Rattle.iso_restarts.specs.declared.note.Note.{Note}
use Rattle.iso_restarts.specs.declared.note.Note.TheVariants.{Begun, TimedOut, Told}
use Rattle.iso_restarts.specs.Diary.{on_disk, in_memory, unsent, writes, begins, times_out_by, orders_after, party_after}
use Rattle.iso_restarts.specs.World.{World, Event, Goes, Keeps, Restarts, ends_with, with_notes, with_host, for_host, is_told, passes, happens, run, unused}
use Rattle.iso_restarts.specs.Laws.{CanHappen, IsSentIn}
use Rattle.iso_restarts.proofs.Lists.{all-weaker, all-join, all-at, at-more, all-in}
use Rattle.iso_restarts.proofs.Noted.{slots-join}
use Rattle.iso_restarts.proofs.Played.{CanPlay, Plays, all_noted, plays-more, plays-join, plays-take, RunsTo, runs-join, play-all, with_slots}

-- both ends where the acquirer never crashes: it is as on the disk, and sent these orders
abbrev pub calm : World → List Instruction → Ends
calm w sent = ends_with w (on_disk w.acquirer) sent

-- each order that was sent is sent there, and the notes that wait for a sync can be played there
pub record IsFollowed (w : World) (sent : List Instruction) : Type 0 where
  pub among : AllByRecursion (IsSentIn sent) w.sent
  pub plays : Plays w.given (on_disk w.acquirer) w.acquirer.pending

-- a run without crashes of the acquirer that follows
pub record Follows (w : World) (sent : List Instruction) (new : World) : Type 0 where
  pub after : List Instruction
  pub ran : RunsTo (calm w sent) (calm new after)
  pub is : IsFollowed new after

module _ (w : World) (sent : List Instruction) (h : IsFollowed w sent) where
  -- nothing happens
  rests : Follows w sent w
  rests = record { after = sent; ran = record { events = []; can = tt; ran = refl }; is = h }

  -- ---- the acquirer writes

  as-played : all_noted (on_disk w.acquirer) w.acquirer.pending ≡ in_memory w.acquirer
  as-played = ap (λ (l : List Slot). record { id = w.acquirer.id; slots = l }) (sym (slots-join [] w.acquirer.synced w.acquirer.pending))

  wrote : (n : Note) → CanPlay w.given (in_memory w.acquirer) n → Follows w sent (with_notes w (writes w.acquirer n))
  wrote n can = record {
    after = sent;
    ran = record { events = []; can = tt; ran = refl };
    is = record {
      among = h.among;
      plays = plays-join w.given (on_disk w.acquirer) w.acquirer.pending (n ∷ []) h.plays (subst (λ (p : Party). CanPlay w.given p n) (sym as-played) can, tt);
    };
  }

  begun : (pan : AccountNumber) (amount : ℕ) (currency : List ℕ) (at : ℕ) → CanPass (Begin pan amount currency at)
      → Follows w sent (with_notes w (begins w.acquirer (debit_of (in_memory w.acquirer) pan amount currency at)))
  begun pan amount currency at can = by_test (nat_lt (length (in_memory w.acquirer).slots) 999999) refl
    where
      by_test : (b : Bool) → nat_lt (length (in_memory w.acquirer).slots) 999999 ≡ b →
          Follows w sent (with_notes w (cond b (writes w.acquirer (Begun (debit_of (in_memory w.acquirer) pan amount currency at))) w.acquirer))
      by_test true e = wrote (Begun (debit_of (in_memory w.acquirer) pan amount currency at))
          (record { pan = pan; amount = amount; currency = currency; at = at; can = can; left = e; is = refl })
      by_test false e = rests

  timed-out : (stan : ℕ) (r : Result (Instruction × List Slot) AcqFault) → Follows w sent (with_notes w (times_out_by w.acquirer stan r))
  timed-out stan (Ok asked) = wrote (TimedOut stan) tt
  timed-out stan (Err fault) = rests

  was-told : (place : ℕ) (f : Option Given) → slice_get w.given place ≡ f → Follows w sent (is_told w f)
  was-told place None e = rests
  was-told place (Some g) e = wrote (Told g.key g.answer.code) (record { place = place; answer = g; found = e; key_is = refl; code_is = refl })

  -- ---- what happens at the host's end happens there too

  went : (e : Outage) (new : Ends) (more : List Given) → CanGo e → goes (calm w sent) e ≡ calm (with_host w new) sent → new.given ≡ w.given ++ more
      → Follows w sent (with_host w new)
  went e new more can ran given = record {
    after = sent;
    ran = record { events = e ∷ []; can = (can, tt); ran = ran };
    is = record {
      among = h.among;
      plays = subst (λ (l : List Given). Plays l (on_disk w.acquirer) w.acquirer.pending) (sym given) (plays-more w.given more (on_disk w.acquirer) w.acquirer.pending h.plays);
    };
  }

  delivered : (place : ℕ) (f : Option Instruction) → slice_get w.sent place ≡ f → Follows w sent (with_host w (receives (for_host w) f))
  delivered place None e = rests
  delivered place (Some o) e =
      let at = all-at (IsSentIn sent) w.sent place o h.among e in
      went (Passes (Deliver at.0)) (receives (for_host w) (Some o)) [] tt (ap (receives (calm w sent)) at.1) (sym (append-nil w.given))

  -- the host that got an order of others
  abbrev with-other : Instruction → Ends
  with-other o = record { acquirer = on_disk w.acquirer; sent = w.sent; host = comes w.host o; waiting = w.waiting; given = w.given }

  delivered-other : (o : Instruction) → CanPass (Other o) → Follows w sent (with_host w (receives_other (for_host w) o))
  delivered-other o can = by_test (o.key.acquirer == w.acquirer.id) refl
    where
      by_test : (b : Bool) → (o.key.acquirer == w.acquirer.id) ≡ b → Follows w sent (with_host w (cond b (for_host w) (with-other o)))
      by_test true e = rests
      by_test false e = went (Passes (Other o)) (with-other o) [] can (rw e refl) (sym (append-nil w.given))

  -- ---- notes come to the disk, and are played there

  brought : (ns : List Note) → Plays w.given (on_disk w.acquirer) ns
      → RunsTo (calm w sent) (ends_with w (party_after w.acquirer.id (w.acquirer.synced ++ ns)) (sent ++ orders_after (on_disk w.acquirer).slots ns))
  brought ns plays =
      subst (λ (l : List Slot). RunsTo (calm w sent) (with_slots (calm w sent) l (orders_after (on_disk w.acquirer).slots ns)))
      (sym (slots-join [] w.acquirer.synced ns)) (play-all ns (calm w sent) plays)

  still-among : (more : List Instruction) → AllByRecursion (IsSentIn (sent ++ more)) w.sent
  still-among more = all-weaker (IsSentIn sent) (IsSentIn (sent ++ more)) w.sent (λ o at. (at.0, at-more sent more at.0 o at.1)) h.among

  kept : Follows w sent (happens w Keeps)
  kept =
      let more = unsent w.acquirer in
      record {
        after = sent ++ more;
        ran = brought w.acquirer.pending h.plays;
        is = record { among = all-join (IsSentIn (sent ++ more)) w.sent more (still-among more) (all-in sent more); plays = tt };
      }

  restarted : (k : ℕ) → Follows w sent (happens w (Restarts k))
  restarted k =
      let front = take k w.acquirer.pending in
      let more = orders_after (on_disk w.acquirer).slots front in
      record {
        after = sent ++ more;
        ran = brought front (plays-take w.given (on_disk w.acquirer) k w.acquirer.pending h.plays);
        is = record { among = still-among more; plays = tt };
      }

  -- ---- an event

  passed : (e : Passing) → CanPass e → Follows w sent (passes w e)
  passed (Begin pan amount currency at) can = begun pan amount currency at can
  passed (Timeout stan) can = timed-out stan (timeout (in_memory w.acquirer).slots stan)
  passed (Deliver place) can = delivered place (slice_get w.sent place) refl
  passed (Answer place) can = was-told place (slice_get w.given place) refl
  passed (Other o) can = delivered-other o can

  pub follows : (e : Event) → CanHappen e → Follows w sent (happens w e)
  follows (Goes (Passes e)) can = passed e can
  follows (Goes Syncs) can = went Syncs (goes (for_host w) Syncs) w.waiting tt refl refl
  follows (Goes (Crashes n)) can = went (Crashes n) (goes (for_host w) (Crashes n)) [] tt refl (sym (append-nil w.given))
  follows Keeps can = kept
  follows (Restarts k) can = restarted k

-- ---- all events

pub follows-all : (es : List Event) (w : World) (sent : List Instruction) → IsFollowed w sent → AllByRecursion CanHappen es → Follows w sent (run es w)
follows-all [] w sent h can = rests w sent h
follows-all (e ∷ es) w sent h can =
    let first = follows w sent h e can.0 in
    let rest = follows-all es (happens w e) first.after first.is can.1 in
    record { after = rest.after; ran = runs-join (calm w sent) (calm (happens w e) first.after) (calm (run es (happens w e)) rest.after) first.ran rest.ran; is = rest.is }

pub followed-unused : (id : ℕ) (accounts : List Account) (limit : ℕ) → IsFollowed (unused id accounts limit) []
followed-unused id accounts limit = record { among = tt; plays = tt }
