-- Notes are played where the acquirer never crashes: each is an event there, with the same orders sent.
use Rattle.std.proofs.Common.{◌≡◌, ℕ, zero, suc, true, refl, ap, sym, ◌∙◌, List, [], ◌∷◌, ◌++◌, length, take, append_assoc, append-nil}
use Rattle.std.specs.Prelude.{Some, Result, Ok, Err, slice_get, nat_lt}
use Rattle.std.specs.List.{AllByRecursion}
use Rattle.iso_order.specs.declared.key.TxKey.{TxKey}
use Rattle.iso_order.specs.Pan.{AccountNumber}
use Rattle.iso_order.specs.Order.{Instruction}
use Rattle.iso_acquirer.specs.declared.event.Event.TheVariants.{Begin, Timeout, Answer}
use Rattle.iso_acquirer.specs.declared.event.Given.{Given}
use Rattle.iso_acquirer.specs.declared.fault.AcqFault.{AcqFault}
use Rattle.iso_acquirer.specs.declared.slot.Slot.{Slot}
use Rattle.iso_acquirer.specs.Acquirer.{Party, slots_with, debit_of, timeout, slots_after_answer}
use Rattle.iso_acquirer.specs.Runs.{CanHappen as CanPass}
use Rattle.iso_outages.specs.World.{World as Ends, Event as Outage, Passes, asks, hears}
use Rattle.iso_outages.specs.World.{happens as goes, run as run_on}
use Rattle.iso_outages.specs.Laws.{CanHappen as CanGo}
use Rattle.iso_restarts.specs.declared.note.Note.{Note}
use Rattle.iso_restarts.specs.declared.note.Note.TheVariants.{Begun, TimedOut, Told}
use Rattle.iso_restarts.specs.Diary.{slots_asked, orders_asked, slots_noted, orders_noted, slots_after, orders_after}
use Rattle.iso_restarts.proofs.Lists.{all-join, at-more}

-- ---- notes that can be played

-- the order is that of a debit that can begin, under the next trace number
pub record IsBegunBy (p : Party) (o : Instruction) : Type 0 where
  pub pan : AccountNumber
  pub amount : ℕ
  pub currency : List ℕ
  pub at : ℕ
  pub can : CanPass (Begin pan amount currency at)
  pub left : nat_lt (length p.slots) 999999 ≡ true
  pub is : o ≡ debit_of p pan amount currency at

-- the answer was given
pub record IsToldBy (given : List Given) (key : TxKey) (code : ℕ) : Type 0 where
  pub place : ℕ
  pub answer : Given
  pub found : slice_get given place ≡ Some answer
  pub key_is : answer.key ≡ key
  pub code_is : answer.answer.code ≡ code

abbrev pub CanPlay : List Given → Party → Note → Type 0
CanPlay given p (Begun o) = IsBegunBy p o
CanPlay given p (TimedOut stan) = Unit {0}
CanPlay given p (Told key code) = IsToldBy given key code

-- the acquirer once that happened
abbrev pub noted : Party → Note → Party
noted p n = record { id = p.id; slots = slots_noted p.slots n }

abbrev pub all_noted : Party → List Note → Party
all_noted p ns = record { id = p.id; slots = slots_after p.slots ns }

abbrev pub Plays : List Given → Party → List Note → Type 0
Plays given p [] = Unit {0}
Plays given p (n ∷ ns) = CanPlay given p n × Plays given (noted p n) ns

can-more : (given more : List Given) (p : Party) (n : Note) → CanPlay given p n → CanPlay (given ++ more) p n
can-more given more p (Begun o) h = h
can-more given more p (TimedOut stan) h = h
can-more given more p (Told key code) h = record {
  place = h.place;
  answer = h.answer;
  found = at-more given more h.place h.answer h.found;
  key_is = h.key_is;
  code_is = h.code_is;
}

pub plays-more : (given more : List Given) (p : Party) (ns : List Note) → Plays given p ns → Plays (given ++ more) p ns
plays-more given more p [] h = tt
plays-more given more p (n ∷ ns) h = (can-more given more p n h.0, plays-more given more (noted p n) ns h.1)

pub plays-join : (given : List Given) (p : Party) (xs ys : List Note) → Plays given p xs → Plays given (all_noted p xs) ys → Plays given p (xs ++ ys)
plays-join given p [] ys h rest = rest
plays-join given p (n ∷ xs) ys h rest = (h.0, plays-join given (noted p n) xs ys h.1 rest)

pub plays-take : (given : List Given) (p : Party) (k : ℕ) (ns : List Note) → Plays given p ns → Plays given p (take k ns)
plays-take given p zero ns h = tt
plays-take given p (suc k) [] h = tt
plays-take given p (suc k) (n ∷ ns) h = (h.0, plays-take given (noted p n) k ns h.1)

-- ---- one note

-- both ends once the acquirer keeps these slots, and sent these orders too
abbrev pub with_slots : Ends → List Slot → List Instruction → Ends
with_slots e slots orders = record {
  acquirer = record { id = e.acquirer.id; slots = slots };
  sent = e.sent ++ orders;
  host = e.host;
  waiting = e.waiting;
  given = e.given;
}

none-sent : (e : Ends) → e ≡ with_slots e e.acquirer.slots []
none-sent e = ap (λ (l : List Instruction). record { acquirer = e.acquirer; sent = l; host = e.host; waiting = e.waiting; given = e.given }) (sym (append-nil e.sent))

-- an event that can happen leads there
pub record GoesBy (from to : Ends) : Type 0 where
  pub event : Outage
  pub can : CanGo event
  pub ran : goes from event ≡ to

begun : (e : Ends) (o : Instruction) → IsBegunBy e.acquirer o → GoesBy e (with_slots e (slots_noted e.acquirer.slots (Begun o)) (orders_noted e.acquirer.slots (Begun o)))
begun e o h =
    let order = debit_of e.acquirer h.pan h.amount h.currency h.at in
    let sends : goes e (Passes (Begin h.pan h.amount h.currency h.at)) ≡ with_slots e (slots_with e.acquirer.slots order) (order ∷ []) = rw h.left refl in
    record {
      event = Passes (Begin h.pan h.amount h.currency h.at);
      can = h.can;
      ran = sends ∙ ap (λ (x : Instruction). with_slots e (slots_with e.acquirer.slots x) (x ∷ [])) (sym h.is);
    }

asked : (e : Ends) (r : Result (Instruction × List Slot) AcqFault) → asks e r ≡ with_slots e (slots_asked e.acquirer.slots r) (orders_asked r)
asked e (Ok sent) = refl
asked e (Err fault) = none-sent e

told : (e : Ends) (key : TxKey) (code : ℕ) → IsToldBy e.given key code → GoesBy e (with_slots e (slots_after_answer e.acquirer.slots key code) [])
told e key code h =
    let slots_are : slots_after_answer e.acquirer.slots h.answer.key h.answer.answer.code ≡ slots_after_answer e.acquirer.slots key code =
    ap (λ (k : TxKey). slots_after_answer e.acquirer.slots k h.answer.answer.code) h.key_is ∙ ap (slots_after_answer e.acquirer.slots key) h.code_is in
    record {
      event = Passes (Answer h.place);
      can = tt;
      ran =
          ap (hears e) h.found
          ∙ none-sent (hears e (Some h.answer))
          ∙ ap (λ (l : List Slot). with_slots e l []) slots_are;
    }

played : (e : Ends) (n : Note) → CanPlay e.given e.acquirer n → GoesBy e (with_slots e (slots_noted e.acquirer.slots n) (orders_noted e.acquirer.slots n))
played e (Begun o) h = begun e o h
played e (TimedOut stan) h = record { event = Passes (Timeout stan); can = tt; ran = asked e (timeout e.acquirer.slots stan) }
played e (Told key code) h = told e key code h

-- ---- all notes

-- events that can happen lead there
pub record RunsTo (from to : Ends) : Type 0 where
  pub events : List Outage
  pub can : AllByRecursion CanGo events
  pub ran : run_on events from ≡ to

run-on-join : (es fs : List Outage) (e : Ends) → run_on (es ++ fs) e ≡ run_on fs (run_on es e)
run-on-join [] fs e = refl
run-on-join (x ∷ es) fs e = run-on-join es fs (goes e x)

pub runs-join : (a b c : Ends) → RunsTo a b → RunsTo b c → RunsTo a c
runs-join a b c first rest = record {
  events = first.events ++ rest.events;
  can = all-join CanGo first.events rest.events first.can rest.can;
  ran = run-on-join first.events rest.events a ∙ ap (run_on rest.events) first.ran ∙ rest.ran;
}

pub play-all : (ns : List Note) (e : Ends) → Plays e.given e.acquirer ns → RunsTo e (with_slots e (slots_after e.acquirer.slots ns) (orders_after e.acquirer.slots ns))
play-all [] e h = record { events = []; can = tt; ran = none-sent e }
play-all (n ∷ ns) e h =
    let mid = with_slots e (slots_noted e.acquirer.slots n) (orders_noted e.acquirer.slots n) in
    let first = played e n h.0 in
    let rest = play-all ns mid h.1 in
    record {
      events = first.event ∷ rest.events;
      can = (first.can, rest.can);
      ran =
          ap (run_on rest.events) first.ran ∙ rest.ran
          ∙ ap (λ (l : List Instruction). record {
            acquirer = record { id = e.acquirer.id; slots = slots_after mid.acquirer.slots ns };
            sent = l;
            host = e.host;
            waiting = e.waiting;
            given = e.given;
          }) (append_assoc e.sent (orders_noted e.acquirer.slots n) (orders_after mid.acquirer.slots ns));
    }
