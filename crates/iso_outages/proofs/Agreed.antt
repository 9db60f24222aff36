-- Both ends agree after a run with crashes, since they do after the run without that leads to the same.
use Rattle.std.proofs.Common.{ℕ, List, [], ◌++◌}
use Rattle.std.specs.List.{AllByRecursion}
use Rattle.iso_issuer.specs.declared.account.Account.{Account}
use Rattle.iso_durable.specs.Durable.{entered}
use Rattle.iso_acquirer.specs.Agreement.{BothAgree, StaysClosed, BooksAgree}
use Rattle.iso_acquirer.specs.Runs.{IsAcquirer, IsRun, RunsAgree, RunsStayClosed, RunsBalance}
use Rattle.iso_acquirer.specs.Runs.{unused as unused_ends}
use Rattle.iso_outages.specs.World.{World, Event, Syncs, happens, run, unused}
use Rattle.iso_outages.specs.Laws.{CanHappen, ends_with, IsRunWithout, on_disk, in_memory}
use Rattle.iso_outages.proofs.Carried.{IssuerLaws}
use Rattle.iso_outages.proofs.Delivered.{run-join}
use Rattle.iso_outages.proofs.Without.{follows, follows-all, followed-unused, Follows}

module _ (laws : IssuerLaws) (id : ℕ) (accounts : List Account) (limit : ℕ) (events : List Event) (own : IsAcquirer id) (can : AllByRecursion CanHappen events) where
  abbrev at_end : World
  at_end = run events (unused id accounts limit)

  -- the run without crashes
  calm_run : Follows (unused id accounts limit) [] at_end
  calm_run = follows-all laws events (unused id accounts limit) [] (followed-unused laws id accounts limit) can

  pub without : IsRunWithout (unused_ends id accounts limit) at_end
  without = record { events = calm_run.events; given = calm_run.after; ran = calm_run.ran; among = calm_run.is.among }

  -- and on to the next sync
  next_sync : Follows at_end calm_run.after (happens at_end Syncs)
  next_sync = follows laws at_end calm_run.after calm_run.is Syncs tt

  to_sync : IsRun (unused_ends id accounts limit) (calm_run.events ++ next_sync.events) 0 (ends_with at_end (entered at_end.host) next_sync.after)
  to_sync = run-join (unused_ends id accounts limit) (ends_with at_end at_end.host.synced calm_run.after) (ends_with at_end (entered at_end.host) next_sync.after)
      calm_run.events next_sync.events calm_run.ran next_sync.ran

  pub agree-over : RunsAgree → BothAgree (on_disk at_end) × BothAgree (in_memory at_end)
  agree-over agree = (
    agree id accounts limit calm_run.events 0 (ends_with at_end at_end.host.synced calm_run.after) own calm_run.ran,
    agree id accounts limit (calm_run.events ++ next_sync.events) 0 (ends_with at_end (entered at_end.host) next_sync.after) own to_sync,
  )

  pub balance-over : RunsBalance → BooksAgree (on_disk at_end) × BooksAgree (in_memory at_end)
  balance-over books = (
    λ settled. books id accounts limit calm_run.events 0 (ends_with at_end at_end.host.synced calm_run.after) own calm_run.ran
        (record { closed = settled.closed; no_others = settled.no_others }),
    λ settled. books id accounts limit (calm_run.events ++ next_sync.events) 0 (ends_with at_end (entered at_end.host) next_sync.after) own to_sync
        (record { closed = settled.closed; no_others = settled.no_others }),
  )

  pub closed-over : RunsStayClosed → (more : List Event) → AllByRecursion CanHappen more → StaysClosed (on_disk at_end) (on_disk (run more at_end))
  closed-over closed more can_more =
      let rest = follows-all laws more at_end calm_run.after calm_run.is can_more in
      closed id accounts limit calm_run.events 0 (ends_with at_end at_end.host.synced calm_run.after) own calm_run.ran rest.events 0
      (ends_with (run more at_end) (run more at_end).host.synced rest.after) rest.ran
