-- Each run with crashes is a run without: each event of the one is followed by events of the other.
use Rattle.std.proofs.Common.{◌≡◌, ◌≢◌, ◌<◌, ℕ, Bool, true, false, refl, arith, ap, sym, ◌∙◌, subst, List, [], ◌∷◌, ◌++◌, length, append-nil, inl, inr, cond, take}
use Rattle.std.specs.Prelude.{Option, Some, None, Result, Ok, Err, slice_get, nat_lt, ◌==◌}
use Rattle.std.specs.List.{AllByRecursion}
use Rattle.std.proofs.lemmas.Bool.Decides.{nat_tests}
use Rattle.std.proofs.lemmas.Grind.{common_steps}
use Rattle.iso_order.specs.declared.key.TxKey.{TxKey}
use Rattle.iso_order.specs.Key.{same_key}
use Rattle.iso_order.specs.Pan.{AccountNumber}
use Rattle.iso_order.specs.Order.{Instruction}
use Rattle.iso_issuer.specs.declared.account.Account.{Account}
use Rattle.iso_durable.specs.Durable.{entered, comes}
use Rattle.iso_acquirer.specs.declared.event.Event.{Event as Passing}
use Rattle.iso_acquirer.specs.declared.event.Event.TheVariants.{Begin, Timeout, Deliver, Answer, Other}
use Rattle.iso_acquirer.specs.declared.event.Given.{Given}
use Rattle.iso_acquirer.specs.declared.fault.AcqFault.{AcqFault}
use Rattle.iso_acquirer.specs.declared.slot.Slot.{Slot}
use Rattle.iso_acquirer.specs.declared.slot.Role.{Role}
use Rattle.iso_acquirer.specs.declared.slot.Role.TheVariants.{Transaction, Reversal}
use Rattle.iso_acquirer.specs.declared.slot.Stage.{Stage}
use Rattle.iso_acquirer.specs.declared.slot.Stage.TheVariants.{Waiting, Reversing, Approved, Declined, Reversed}
use Rattle.iso_acquirer.specs.Acquirer.{slot_at, on_stage, slot_at_stage, slots_at_stage, stage_after, stage_after_undo, slots_with, debit_of, timeout, slots_after_answer, slots_after_answer_in_role, slots_after_answer_of_slot}
use Rattle.iso_acquirer.specs.World.{World as BothEnds, IsMade}
use Rattle.iso_acquirer.specs.Runs.{IsRun}
use Rattle.iso_acquirer.specs.Runs.{CanHappen as CanPass}
use Rattle.iso_outages.specs.World.{World, Event, Passes, Syncs, Crashes, sends, begins, asks, receives, hears, receives_other, passes, happens, run, unused}
use Rattle.iso_outages.specs.Laws.{CanHappen, ends_with, IsAmong}
use Rattle.iso_outages.proofs.Lists.{all-weaker, all-at, all-join, all-take, start-kept}
use Rattle.iso_outages.proofs.Carried.{IssuerLaws, CanBring, IsCarried, carried-more, carried-comes, carried-answered}
use Rattle.iso_outages.proofs.Delivered.{run-none, run-first, run-join, deliver-all, give-all}

-- ---- an answer of 96 leaves the acquirer as it is

stage-stays : (stage : Stage) → stage_after 96 stage ≡ stage
stage-stays (Waiting n) = refl
stage-stays (Reversing u) = refl
stage-stays Approved = refl
stage-stays (Declined c) = refl
stage-stays (Reversed u) = refl

undo-stays : (stage : Stage) → stage_after_undo 96 stage ≡ stage
undo-stays (Waiting n) = refl
undo-stays (Reversing u) = refl
undo-stays Approved = refl
undo-stays (Declined c) = refl
undo-stays (Reversed u) = refl

slots-stay : (step : Stage → Stage) (stan : ℕ) → ((stage : Stage) → step stage ≡ stage) → (slots : List Slot) → slots_at_stage step stan slots ≡ slots
slots-stay step stan stays [] = refl
slots-stay step stan stays (s ∷ ss) = ap (λ (x : Slot). x ∷ slots_at_stage step stan ss) (by_test (s.order.key.stan == stan)) ∙ ap (λ (l : List Slot). s ∷ l) (slots-stay step stan stays ss)
  where
    by_role : (r : Role) → on_stage step r ≡ r
    by_role (Transaction stage) = ap Transaction (stays stage)
    by_role (Reversal n) = refl

    by_test : (b : Bool) → cond b (slot_at_stage step s) s ≡ s
    by_test true = ap (λ (r : Role). record { order = s.order; role = r }) (by_role s.role)
    by_test false = refl

full-stays : (slots : List Slot) (key : TxKey) → slots_after_answer slots key 96 ≡ slots
full-stays slots key = by_slot (slot_at slots key.stan)
  where
    by_role : (r : Role) → slots_after_answer_in_role slots key.stan 96 r ≡ slots
    by_role (Transaction stage) = slots-stay (stage_after 96) key.stan stage-stays slots
    by_role (Reversal n) = slots-stay (stage_after_undo 96) n undo-stays slots

    by_test : (s : Slot) (b : Bool) → cond b (slots_after_answer_in_role slots key.stan 96 s.role) slots ≡ slots
    by_test s true = by_role s.role
    by_test s false = refl

    by_slot : (f : Option Slot) → slots_after_answer_of_slot slots key 96 f ≡ slots
    by_slot None = refl
    by_slot (Some s) = by_test s (same_key s.order.key key)

-- ---- one event

-- both ends without crashes: the orders on the disk, and these answers
abbrev calm : World → List Given → BothEnds
calm w given = ends_with w w.host.synced given

-- each answer that was given is among these, and what the host has and what waits can still be delivered
pub record IsFollowed (w : World) (given : List Given) : Type 0 where
  pub among : AllByRecursion (IsAmong given) w.given
  pub carried : IsCarried w.acquirer.id w.sent w.host w.waiting

-- a run without crashes that follows
pub record Follows (w : World) (given : List Given) (new : World) : Type 0 where
  pub events : List Passing
  pub after : List Given
  pub ran : IsRun (calm w given) events 0 (calm new after)
  pub is : IsFollowed new after

module _ (laws : IssuerLaws) (w : World) (given : List Given) (h : IsFollowed w given) where
  -- nothing happens
  rests : Follows w given w
  rests = record { events = []; after = given; ran = run-none (calm w given); is = h }

  -- the acquirer sends
  sent : (e : Passing) (r : Instruction × List Slot) → CanPass e → IsMade (calm w given) e (calm (sends w r) given) → Follows w given (sends w r)
  sent e r can made = record {
    events = e ∷ [];
    after = given;
    ran = run-first (calm w given) (calm (sends w r) given) (calm (sends w r) given) e [] can made (run-none (calm (sends w r) given));
    is = record { among = h.among; carried = carried-more w.acquirer.id w.sent (r.0 ∷ []) w.host w.waiting h.carried };
  }

  begun : (pan : AccountNumber) (amount : ℕ) (currency : List ℕ) (at : ℕ) → CanPass (Begin pan amount currency at) → Follows w given (begins w (debit_of w.acquirer pan amount currency at))
  begun pan amount currency at can = by_test (nat_lt (length w.acquirer.slots) 999999) refl
    where
      left : nat_lt (length w.acquirer.slots) 999999 ≡ true → length w.acquirer.slots < 999999
      left e = grind (arith, nat_tests, e)

      by_test : (b : Bool) → nat_lt (length w.acquirer.slots) 999999 ≡ b →
          Follows w given (cond b (sends w (debit_of w.acquirer pan amount currency at, slots_with w.acquirer.slots (debit_of w.acquirer pan amount currency at))) w)
      by_test true e =
          let o = debit_of w.acquirer pan amount currency at in
          sent (Begin pan amount currency at) (o, slots_with w.acquirer.slots o) can (record { left = left e; after = refl })
      by_test false e = rests

  asked : (stan : ℕ) → Follows w given (asks w (timeout w.acquirer.slots stan))
  asked stan = by_result (timeout w.acquirer.slots stan) refl
    where
      by_result : (r : Result (Instruction × List Slot) AcqFault) → timeout w.acquirer.slots stan ≡ r → Follows w given (asks w r)
      by_result (Ok r) e = sent (Timeout stan) r tt (record { asked = r; found = e; after = refl })
      by_result (Err fault) e = rests

  received : (place : ℕ) → Follows w given (receives w (slice_get w.sent place))
  received place = by_order (slice_get w.sent place) refl
    where
      by_order : (f : Option Instruction) → slice_get w.sent place ≡ f → Follows w given (receives w f)
      by_order None e = rests
      by_order (Some o) e = record {
        events = [];
        after = given;
        ran = run-none (calm w given);
        is = record { among = h.among; carried = carried-answered laws w.acquirer.id w.sent w.host w.waiting h.carried o place e };
      }

  received-other : (o : Instruction) → CanPass (Other o) → Follows w given (receives_other w o)
  received-other o can = by_test (o.key.acquirer == w.acquirer.id) refl
    where
      other : (o.key.acquirer == w.acquirer.id) ≡ false → o.key.acquirer ≢ w.acquirer.id
      other e = λ same. grind (arith, common_steps, e, same)

      by_test : (b : Bool) → (o.key.acquirer == w.acquirer.id) ≡ b → Follows w given (cond b w (record { acquirer = w.acquirer; sent = w.sent; host = comes w.host o; waiting = w.waiting; given = w.given }))
      by_test true e = rests
      by_test false e = record {
        events = [];
        after = given;
        ran = run-none (calm w given);
        is = record { among = h.among; carried = carried-comes laws w.acquirer.id w.sent w.host w.waiting h.carried o (inr (other e, can)) };
      }

  heard : (place : ℕ) → Follows w given (hears w (slice_get w.given place))
  heard place = by_answer (slice_get w.given place) refl
    where
      by_among : (g : Given) → IsAmong given g → Follows w given (hears w (Some g))
      by_among g (inl at) = record {
        events = Answer at.0 ∷ [];
        after = given;
        ran = run-first (calm w given) (calm (hears w (Some g)) given) (calm (hears w (Some g)) given) (Answer at.0) [] tt
            (record { answer = g; found = at.1; after = refl }) (run-none (calm (hears w (Some g)) given));
        is = record { among = h.among; carried = h.carried };
      }
      by_among g (inr full) =
          let same : slots_after_answer w.acquirer.slots g.key g.answer.code ≡ w.acquirer.slots = ap (slots_after_answer w.acquirer.slots g.key) full ∙ full-stays w.acquirer.slots g.key in
          subst (λ (l : List Slot). Follows w given (record { acquirer = record { id = w.acquirer.id; slots = l }; sent = w.sent; host = w.host; waiting = w.waiting; given = w.given })) (sym same) rests

      by_answer : (f : Option Given) → slice_get w.given place ≡ f → Follows w given (hears w f)
      by_answer None e = rests
      by_answer (Some g) e = by_among g (all-at (IsAmong given) w.given place g h.among e)

  passed : (e : Passing) → CanPass e → Follows w given (passes w e)
  passed (Begin pan amount currency at) can = begun pan amount currency at can
  passed (Timeout stan) can = asked stan
  passed (Deliver place) can = received place
  passed (Answer place) can = heard place
  passed (Other o) can = received-other o can

  -- all that waits is delivered, and then each order whose answer waits once more
  synced : Follows w given (happens w Syncs)
  synced =
      let orders = entered w.host in
      let first = deliver-all laws w.acquirer w.sent w.host.accounts w.host.limit w.host.pending w.host.synced given h.carried.bring h.carried.start in
      let rest = give-all laws w.acquirer w.sent w.host.accounts w.host.limit w.waiting orders first.after h.carried.start.once h.carried.waits in
      let all = rest.delivers in
      record {
        events = first.events ++ all.events;
        after = all.after;
        ran = run-join (calm w given) (ends_with w orders first.after) (calm (happens w Syncs) all.after) first.events all.events first.ran all.ran;
        is = record {
          among = all-join (IsAmong all.after) w.given w.waiting
              (all-weaker (IsAmong given) (IsAmong all.after) w.given (λ g among. all.keeps g (first.keeps g among)) h.among) rest.among;
          carried = record { bring = tt; waits = tt; start = rw (append-nil orders) h.carried.start };
        };
      }

  -- what the crash kept is delivered
  crashed : (kept : ℕ) → Follows w given (happens w (Crashes kept))
  crashed kept =
      let front = take kept w.host.pending in
      let start = start-kept laws.starts w.host.limit kept w.host.synced w.host.pending h.carried.start in
      let first = deliver-all laws w.acquirer w.sent w.host.accounts w.host.limit front w.host.synced given
      (all-take (CanBring w.acquirer.id w.sent) kept w.host.pending h.carried.bring) start in
      record {
        events = first.events;
        after = first.after;
        ran = first.ran;
        is = record {
          among = all-weaker (IsAmong given) (IsAmong first.after) w.given first.keeps h.among;
          carried = record { bring = tt; waits = tt; start = rw (append-nil (w.host.synced ++ front)) start };
        };
      }

  pub follows : (e : Event) → CanHappen e → Follows w given (happens w e)
  follows (Passes e) can = passed e can
  follows Syncs can = synced
  follows (Crashes kept) can = crashed kept

-- ---- all events

module _ (laws : IssuerLaws) where
  pub follows-all : (es : List Event) (w : World) (given : List Given) → IsFollowed w given → AllByRecursion CanHappen es → Follows w given (run es w)
  follows-all [] w given h can = rests laws w given h
  follows-all (e ∷ es) w given h can =
      let first = follows laws w given h e can.0 in
      let rest = follows-all es (happens w e) first.after first.is can.1 in
      record {
        events = first.events ++ rest.events;
        after = rest.after;
        ran = run-join (calm w given) (calm (happens w e) first.after) (calm (run es (happens w e)) rest.after) first.events rest.events first.ran rest.ran;
        is = rest.is;
      }

  pub followed-unused : (id : ℕ) (accounts : List Account) (limit : ℕ) → IsFollowed (unused id accounts limit) []
  followed-unused id accounts limit = record {
    among = tt;
    carried = record { bring = tt; waits = tt; start = record { once = tt; few = omega arith } };
  }
