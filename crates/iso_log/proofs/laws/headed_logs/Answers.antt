use Rattle.iso_log.proofs.Fronts.{leaves_front, append_front, synced_same, pending_new, all_synced, still_headed, none_pending}
use Rattle.iso_log.proofs.laws.headed_logs.Goals as goal

pub returns : goal.returns
returns g c = λ read. record {
  crash = leaves_front read;
  adding = append_front read;
  kept = synced_same read;
  waits = pending_new read;
  synced = all_synced read;
  headed = still_headed read;
  none = none_pending read g.D.Disk.seen;
}
