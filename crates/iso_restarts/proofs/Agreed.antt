-- Both ends agree after a run with crashes of either, since they do after the run without those of the acquirer.
use Rattle.std.proofs.Common.{sym, ◌≡◌, refl, ap, subst, ℕ, List, []}
use Rattle.std.specs.Prelude.{Some, slice_get}
use Rattle.std.specs.List.{AllByRecursion}
use Rattle.iso_issuer.specs.declared.account.Account.{Account}
use Rattle.iso_acquirer.specs.declared.event.Given.{Given}
use Rattle.iso_acquirer.specs.Agreement.{BothAgree, StaysClosed, BooksAgree}
use Rattle.iso_acquirer.specs.Acquirer.{order_at}
use Rattle.iso_acquirer.specs.Runs.{IsAcquirer, RunsSendAsMade}
use Rattle.iso_acquirer.specs.Runs.{unused as unused_both}
use Rattle.iso_outages.specs.World.{World as Ends}
use Rattle.iso_outages.specs.World.{run as run_on, unused as unused_ends}
use Rattle.iso_outages.specs.Laws.{AgreeOverCrashes as Agree, StayClosedOverCrashes as StayClosed, BalanceOverCrashes as Balance}
use Rattle.iso_outages.specs.Laws.{CrashesOnlyLose as HostCrashesOnlyLose, IsRunWithout as HostRunWithout}
use Rattle.iso_outages.specs.Laws.{ends_with as ends_at}
use Rattle.iso_outages.specs.Laws.{on_disk as on_host_disk, in_memory as in_host_memory}
use Rattle.iso_restarts.specs.declared.note.Note.{Note}
use Rattle.iso_restarts.specs.Diary.{on_disk, in_memory, hears}
use Rattle.iso_restarts.specs.World.{World, Event, Keeps, ends_with, is_told, happens, run, unused}
use Rattle.iso_restarts.specs.Laws.{CanHappen, IsSentIn, IsRunWithout, IsRunWithoutAny, both_with, HoldsOfBoth, CallsAreEvents}
use Rattle.iso_restarts.proofs.Lists.{all-weaker, all-at}
use Rattle.iso_restarts.proofs.Played.{RunsTo, runs-join}
use Rattle.iso_restarts.proofs.Without.{calm, Follows, follows, follows-all, followed-unused}

module _ (id : ℕ) (accounts : List Account) (limit : ℕ) (events : List Event) (own : IsAcquirer id) (can : AllByRecursion CanHappen events) where
  abbrev at_end : World
  at_end = run events (unused id accounts limit)

  -- the run without crashes of the acquirer, and on to the next time that it keeps its notes
  calm_run : Follows (unused id accounts limit) [] at_end
  calm_run = follows-all events (unused id accounts limit) [] (followed-unused id accounts limit) can

  next_keep : Follows at_end calm_run.after (happens at_end Keeps)
  next_keep = follows at_end calm_run.after calm_run.is Keeps tt

  to_keep : RunsTo (unused_ends id accounts limit) (calm (happens at_end Keeps) next_keep.after)
  to_keep = runs-join (unused_ends id accounts limit) (calm at_end calm_run.after) (calm (happens at_end Keeps) next_keep.after) calm_run.ran next_keep.ran

  pub without : IsRunWithout (unused_ends id accounts limit) at_end
  without = record { events = calm_run.ran.events; can = calm_run.ran.can; sent = calm_run.after; ran = calm_run.ran.ran; among = calm_run.is.among }

  -- and the run without any crash
  pub without-any : HostCrashesOnlyLose → IsRunWithoutAny (unused_both id accounts limit) at_end
  without-any lose =
      let none = subst (λ (e : Ends). HostRunWithout (unused_both id accounts limit) e) calm_run.ran.ran (lose id accounts limit calm_run.ran.events own calm_run.ran.can) in
      record { events = none.events; sent = calm_run.after; given = none.given; ran = none.ran; sent_among = calm_run.is.among; given_among = none.among }

  -- what was sent is what the notes have
  pub sent-over : HostCrashesOnlyLose → RunsSendAsMade → AllByRecursion (λ o. order_at (on_disk at_end.acquirer).slots o.key.stan ≡ Some o) at_end.sent
  sent-over lose made =
      let none = without-any lose in
      let all = made id accounts limit none.events 0 (ends_at (ends_with at_end (on_disk at_end.acquirer) none.sent) at_end.host.synced none.given) own none.ran in
      all-weaker (IsSentIn none.sent) (λ o. order_at (on_disk at_end.acquirer).slots o.key.stan ≡ Some o) at_end.sent
      (λ o at. all-at (λ x. order_at (on_disk at_end.acquirer).slots x.key.stan ≡ Some x) none.sent at.0 o all at.1) none.sent_among

  -- what holds after each run without
  agree_at : Agree → (to : Ends) → RunsTo (unused_ends id accounts limit) to → BothAgree (on_host_disk to) × BothAgree (in_host_memory to)
  agree_at agree to ran =
      subst (λ (e : Ends). BothAgree (on_host_disk e) × BothAgree (in_host_memory e)) ran.ran (agree id accounts limit ran.events own ran.can)

  books_at : Balance → (to : Ends) → RunsTo (unused_ends id accounts limit) to → BooksAgree (on_host_disk to) × BooksAgree (in_host_memory to)
  books_at books to ran =
      subst (λ (e : Ends). BooksAgree (on_host_disk e) × BooksAgree (in_host_memory e)) ran.ran (books id accounts limit ran.events own ran.can)

  pub agree-over : Agree → HoldsOfBoth BothAgree at_end
  agree-over agree =
      let kept = agree_at agree (calm at_end calm_run.after) calm_run.ran in
      let later = agree_at agree (calm (happens at_end Keeps) next_keep.after) to_keep in
      record { disks = kept.0; host_in_memory = kept.1; acquirer_in_memory = later.0; memories = later.1 }

  pub balance-over : Balance → HoldsOfBoth BooksAgree at_end
  balance-over books =
      let kept = books_at books (calm at_end calm_run.after) calm_run.ran in
      let later = books_at books (calm (happens at_end Keeps) next_keep.after) to_keep in
      record {
        disks = λ settled. kept.0 (record { closed = settled.closed; no_others = settled.no_others });
        host_in_memory = λ settled. kept.1 (record { closed = settled.closed; no_others = settled.no_others });
        acquirer_in_memory = λ settled. later.0 (record { closed = settled.closed; no_others = settled.no_others });
        memories = λ settled. later.1 (record { closed = settled.closed; no_others = settled.no_others });
      }

  -- what is closed stays on every way on
  closed_at : StayClosed → (to : Ends) → RunsTo (calm at_end calm_run.after) to → StaysClosed (on_host_disk (calm at_end calm_run.after)) (on_host_disk to)
  closed_at closed to ran =
      let from = subst (λ (e : Ends). StaysClosed (on_host_disk e) (on_host_disk (run_on ran.events e))) calm_run.ran.ran
      (closed id accounts limit calm_run.ran.events own calm_run.ran.can ran.events ran.can) in
      subst (λ (e : Ends). StaysClosed (on_host_disk (calm at_end calm_run.after)) (on_host_disk e)) ran.ran from

  pub closed-over : StayClosed → (more : List Event) → AllByRecursion CanHappen more →
      StaysClosed (both_with at_end (on_disk at_end.acquirer) at_end.host.synced) (both_with (run more at_end) (on_disk (run more at_end).acquirer) (run more at_end).host.synced)
      × StaysClosed (both_with at_end (on_disk at_end.acquirer) at_end.host.synced) (both_with (run more at_end) (in_memory (run more at_end).acquirer) (run more at_end).host.synced)
  closed-over closed more can_more =
      let later = run more at_end in
      let rest = follows-all more at_end calm_run.after calm_run.is can_more in
      let keep = follows later rest.after rest.is Keeps tt in (
        closed_at closed (calm later rest.after) rest.ran,
        closed_at closed (calm (happens later Keeps) keep.after)
            (runs-join (calm at_end calm_run.after) (calm later rest.after) (calm (happens later Keeps) keep.after) rest.ran keep.ran),
      )

told_by : (w : World) (place : ℕ) (g : Given) → slice_get w.given place ≡ Some g → (is_told w (slice_get w.given place)).acquirer ≡ hears w.acquirer g.key g.answer.code
told_by w place g found = ap (λ f. (is_told w f).acquirer) found

pub calls-are-events : CallsAreEvents
calls-are-events = record {
  begin = λ w pan amount currency sent. refl;
  timed_out = λ w stan. refl;
  told = told_by;
  keep = λ w. refl;
  sent = λ w. refl;
  start = λ w notes left.
      (left.0, ap (λ (l : List Note). record { id = w.acquirer.id; synced = l; pending = [] }) (sym left.1));
}
