-- A host over the journal at a path.
use Rattle.std.specs.Prelude.{◌≡◌, ℕ, Bool, List, [], take, Some}
use Rattle.iso_log.specs.Slots.{records_of}
use Rattle.iso_durable.specs.declared.host.DurableIssuer.{DurableIssuer}
use Rattle.iso_durable.specs.Host.{IsConsistent}
use Rattle.iso_journal.specs.declared.journal.JournalLog.{JournalLog}
use Rattle.iso_log.specs.Headed.{IsReady}
use Rattle.iso_journal.specs.Orders.{journal_orders, synced_orders, pending_orders}
use Rattle.iso_service.specs.Front.{front_fault}
use Rattle.iso_service.specs.declared.fault.StartFault.{StartFault}
use Rattle.iso_service.specs.declared.fault.StartFault.TheVariants.{File, Front, Damaged, Cut, NotMade, Unfit}

-- the host was opened over a file of these bytes, with its orders, and none of them waits
pub record IsStarted {D : Type 0} (seen : D → List ℕ) (may_leave : D → List ℕ → Type 0)
    (is_usable : D → Bool) (file : List ℕ) (host : DurableIssuer (JournalLog D)) : Type 0 where
  pub consistent : IsConsistent (λ l. IsReady seen may_leave is_usable l.log)
      (λ l. synced_orders seen l.log) (λ l. pending_orders seen l.log) host
  pub held : host.issuer.orders ≡ journal_orders (records_of file)
  pub none : pending_orders seen host.log.log ≡ []

-- the reason of a refusal by the first bytes of the file
abbrev pub IsWhy : List ℕ → List ℕ → StartFault → Type 0
IsWhy wanted held (Front fault) = front_fault (take 128 held) wanted ≡ Some fault
IsWhy wanted held (File fault) = Unit {0}
IsWhy wanted held (Damaged place) = Unit {0}
IsWhy wanted held Cut = Unit {0}
IsWhy wanted held NotMade = Unit {0}
IsWhy wanted held Unfit = Unit {0}

-- one that doesn't tell of the first bytes
abbrev pub IsOfDisk : StartFault → Type 0
IsOfDisk (Front fault) = ⊥
IsOfDisk (File fault) = Unit {0}
IsOfDisk (Damaged place) = Unit {0}
IsOfDisk Cut = Unit {0}
IsOfDisk NotMade = Unit {0}
IsOfDisk Unfit = Unit {0}
