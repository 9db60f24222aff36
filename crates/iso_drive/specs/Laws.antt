-- What holds of both ends where a driver calls the acquirer.
use Rattle.std.specs.Prelude.{◌≡◌, ℕ, List, ◌++◌, map, slice_get, Some, pos, ◌-ℤ◌}
use Rattle.std.specs.List.{AllByRecursion}
use Rattle.iso_order.specs.Pan.{AccountNumber}
use Rattle.iso_issuer.specs.declared.account.Account.{Account}
use Rattle.iso_issuer.specs.Balance.{ledger, available}
use Rattle.iso_issuer.specs.Books.{journal}
use Rattle.iso_durable.specs.Durable.{entered}
use Rattle.iso_acquirer.specs.declared.event.Event.TheVariants.{Begin, Timeout, Answer}
use Rattle.iso_acquirer.specs.declared.event.Given.{Given}
use Rattle.iso_acquirer.specs.declared.state.State.{State}
use Rattle.iso_acquirer.specs.Acquirer.{debit_of}
use Rattle.iso_acquirer.specs.Agreement.{approved_total}
use Rattle.iso_outages.specs.World.{Passes}
use Rattle.iso_restarts.specs.Diary.{in_memory, unsent}
use Rattle.iso_restarts.specs.Laws.{AfterEachRun, both_with}
use Rattle.iso_restarts.specs.World.{World, Event, Goes, Keeps, happens, run}
use Rattle.iso_waits.specs.declared.due.Due.{Due}
use Rattle.iso_drive.specs.declared.heard.Heard.TheVariants.{Closed}
use Rattle.iso_drive.specs.Driving.{Driving, slots_in, begins_now, wakes, hears_new, keeps_all}
use Rattle.iso_waits.specs.Waits.{due_by}
use Rattle.iso_drive.specs.Open.{AreAllClosed}

-- ---- a driver's calls are events of its acquirer

-- no answer came in time to these, one after another
abbrev pub time_outs : List Due → List Event
time_outs waiting = map (λ t. Goes (Passes (Timeout t.stan))) waiting

-- what each call makes of the notes, and what is sent once they are kept
pub record CallsAreEvents : Type 0 where
  pub begin :
      (w : World) (d : Driving) (pan : AccountNumber) (amount : ℕ) (currency : List ℕ) (sent : ℕ) →
      d.diary ≡ w.acquirer →
      (happens w (Goes (Passes (Begin pan amount currency sent)))).acquirer
      ≡ (begins_now d (debit_of (in_memory d.diary) pan amount currency sent)).diary
  pub wake :
      (w : World) (d : Driving) → d.diary ≡ w.acquirer →
      (run (time_outs (due_by d.clock d.waiting)) w).acquirer ≡ (wakes d).diary
  pub heard_new :
      (w : World) (d : Driving) (place : ℕ) (g : Given) (stan : ℕ) (state : State) →
      d.diary ≡ w.acquirer →
      slice_get w.given place ≡ Some g →
      (happens w (Goes (Passes (Answer place)))).acquirer
      ≡ (hears_new d g.key g.answer.code (Closed stan state)).diary
  pub keep :
      (w : World) (d : Driving) → d.diary ≡ w.acquirer →
      (happens w Keeps).acquirer ≡ (keeps_all d).diary
  pub sent :
      (w : World) (d : Driving) → d.diary ≡ w.acquirer →
      (happens w Keeps).sent ≡ w.sent ++ unsent d.diary

-- ---- so its own books are the issuer's

-- Once all its transactions are closed, and no order of others is entered, each account at the issuer has its opening
-- amount less what the driver's own books say was spent of it, and all of it is available.
abbrev pub OwnBooksAgree : Type 0
OwnBooksAgree =
    AfterEachRun
    (λ id accounts limit w. (d : Driving) → d.diary ≡ w.acquirer → AreAllClosed (slots_in d) →
    AllByRecursion (λ o. o.key.acquirer ≡ w.acquirer.id) (entered w.host) → (a : Account) →
    (ledger (journal (both_with w (in_memory w.acquirer) (entered w.host)).issuer) a
    ≡ a.opening -ℤ pos (approved_total a.pan (slots_in d)))
    × (available (journal (both_with w (in_memory w.acquirer) (entered w.host)).issuer) a
    ≡ a.opening -ℤ pos (approved_total a.pan (slots_in d))))
