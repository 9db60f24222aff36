-- An acquirer over the log of its notes.
use Rattle.std.specs.Prelude.{◌≡◌, ◌≢◌, ◌↔◌, [], ℕ, Bool, true, false, List, length, Result, Err}
use Rattle.iso_acquirer.specs.declared.fault.AcqFault.TheVariants as acquirer
use Rattle.iso_acquirer.specs.Acquirer.{Party, timeout}
use Rattle.iso_restarts.specs.declared.note.Note.{Note}
use Rattle.iso_restarts.specs.declared.durable.DurableAcquirer.{DurableAcquirer}
use Rattle.iso_restarts.specs.declared.durable.Fault.{Fault}
use Rattle.iso_restarts.specs.declared.durable.Fault.TheVariants as fault
use Rattle.iso_restarts.specs.Diary.{Diary, in_memory, unsent}

-- the number of the acquirer, and the notes of the log
abbrev pub diary_of : {L : Type 0} → (L → List Note) → (L → List Note) → DurableAcquirer L → Diary
diary_of synced pending d =
    record { id = d.acquirer.id; synced = synced d.log; pending = pending d.log }

-- the log is ready; the acquirer and what it has to send are what its notes make them; and it knows whether any wait
pub record IsConsistent
    {L : Type 0} (is_ready : L → Type 0) (synced pending : L → List Note)
    (d : DurableAcquirer L) : Type 0 where
  pub ready : is_ready d.log
  pub same : d.acquirer ≡ in_memory (diary_of synced pending d)
  pub unsent_is : d.unsent.items ≡ unsent (diary_of synced pending d)
  pub none_waits : d.waits ≡ false → pending d.log ≡ []
  pub some_wait : d.waits ≡ true → pending d.log ≢ []

-- a log that was opened, and holds these notes
pub record IsOpened
    {L : Type 0} (is_ready : L → Type 0) (synced pending : L → List Note) (log : L)
    (notes : List Note) : Type 0 where
  pub ready : is_ready log
  pub held : synced log ≡ notes
  pub none : pending log ≡ []

-- it has the same notes as before
pub record Stays
    {L : Type 0} (is_ready : L → Type 0) (synced pending : L → List Note)
    (old new : DurableAcquirer L) : Type 0 where
  pub consistent : IsConsistent is_ready synced pending old
      → IsConsistent is_ready synced pending new
  pub same : diary_of synced pending new ≡ diary_of synced pending old

-- a state that isn't told: notes wait for a sync, or the log failed
abbrev pub IsUntold : Diary → Bool → Fault → Type 0
IsUntold d has_failed fault.Unkept = d.pending ≢ []
IsUntold d has_failed fault.Log = has_failed ≡ true
IsUntold d has_failed (fault.Refused e) = ⊥
IsUntold d has_failed fault.Memory = ⊥
IsUntold d has_failed fault.Damaged = ⊥

-- a refused payment: no trace number is left
abbrev pub IsRefusedBegin : Party → Fault → Type 0
IsRefusedBegin p (fault.Refused e) = (e ≡ acquirer.NoMoreTrace) × (length p.slots ≡ 999999)
IsRefusedBegin p fault.Memory = Unit {0}
IsRefusedBegin p fault.Unkept = ⊥
IsRefusedBegin p fault.Log = Unit {0}
IsRefusedBegin p fault.Damaged = ⊥

-- a refused time-out: the acquirer refuses it, for that reason
abbrev pub IsRefusedTimeout : Party → ℕ → Fault → Type 0
IsRefusedTimeout p stan (fault.Refused e) = timeout p.slots stan ≡ Err e
IsRefusedTimeout p stan fault.Memory = Unit {0}
IsRefusedTimeout p stan fault.Unkept = ⊥
IsRefusedTimeout p stan fault.Log = Unit {0}
IsRefusedTimeout p stan fault.Damaged = ⊥

-- after a failure of the log each call fails with it, and no other call stops the acquirer
pub record Stops {T : Type 0} (old new : Bool) (result : Result T Fault) : Type 0 where
  pub before : old ≡ true → result ≡ Err fault.Log
  pub after : (new ≡ true) ↔ (result ≡ Err fault.Log)
