-- What holds of every file of records, and of every log whose first record is a heading.
use Rattle.std.specs.Prelude.{◌≡◌, ◌≤◌, ◌<◌, ◌+◌, ◌-◌, ◌*◌, ℕ, Bool, List, [], ◌∷◌, ◌++◌, length, drop}
use Rattle.sqlite_disk.specs.Disk.{Holds}
use Rattle.iso_log.specs.declared.log.RecordLog.{RecordLog}
use Rattle.iso_log.specs.Slots.{slot, slots_from, records_of}
use Rattle.iso_log.specs.Log.{IsFile, IsLog, LeavesRecords}
use Rattle.iso_log.specs.Headed.{behind, IsReady, SyncsAll, AppendsOne, LeavesFront, LeavesTold, synced_told, pending_told}

-- a file, and the records behind its heading
pub record FileLaws : Type 0 where
  -- its records are as many as it counts
  pub counted : (slots count : ℕ) (file : List ℕ) → IsFile slots count file
      → count ≡ length (records_of file)
  -- up to a place stand one fewer behind the heading
  pub fewer : (slots count : ℕ) (file : List ℕ) (place : ℕ) → IsFile slots count file
      → place ≤ count → length (behind place file) ≡ place - 1
  -- up to its count they are all but the first
  pub all : (slots count : ℕ) (file : List ℕ) (place : ℕ) → IsFile slots count file
      → count ≤ place → behind place file ≡ drop 1 (records_of file)
  -- one place further, the record there comes last
  pub next : (slots count : ℕ) (file : List ℕ) (place : ℕ) → IsFile slots count file
      → place < count → 1 ≤ place
      → behind (place + 1) file ≡ behind place file ++ slot file place ∷ []
  -- some places further, those in between come last
  pub more : (slots count : ℕ) (file : List ℕ) → IsFile slots count file → (n place : ℕ)
      → place + n ≤ count → 1 ≤ place
      → behind (place + n) file ≡ behind place file ++ slots_from n place file

-- slots that stand one after another, and those of a piece that was read
pub record SlotLaws : Type 0 where
  -- so many slots are so many records
  pub many : (n from : ℕ) (file : List ℕ) → length (slots_from n from file) ≡ n
  -- with one slot more, its record comes last
  pub next : (n : ℕ) (file : List ℕ)
      → slots_from (n + 1) 0 file ≡ slots_from n 0 file ++ slot file n ∷ []
  -- a slot of a piece is the file's, as many places behind that of the piece
  pub same_slot : (count place : ℕ) (piece file : List ℕ) → length piece ≡ 128 * count
      → Holds file (128 * place) piece → (k : ℕ) → k < count → slot piece k ≡ slot file (place + k)
  -- and the first slots of a piece are the file's from that place on
  pub same_slots : (count place : ℕ) (piece file : List ℕ) → length piece ≡ 128 * count
      → Holds file (128 * place) piece → (n : ℕ) → n ≤ count
      → slots_from n 0 piece ≡ slots_from n place file

-- a log with a heading, by what its other records tell
pub record HeadedLaws {D A : Type 0} (seen : D → List ℕ) (may_leave : D → List ℕ → Type 0)
    (is_usable : D → Bool) (read : List ℕ → A) : Type 0 where
  -- while none is added, a crash leaves what was synced, and of what waits some from the front
  pub crash : (old new : RecordLog D) → IsReady seen may_leave is_usable old
      → LeavesRecords (may_leave new.disk) old.synced (records_of (seen old.disk))
      → LeavesFront (LeavesTold read may_leave new) (synced_told read seen old)
      (pending_told read seen old)
  -- while one is added, what it tells waits behind the others
  pub adding : (old new : RecordLog D) (bytes : List ℕ) (o : A)
      → IsReady seen may_leave is_usable old → read bytes ≡ o
      → LeavesRecords (may_leave new.disk) old.synced (records_of (seen old.disk) ++ bytes ∷ [])
      → LeavesFront (LeavesTold read may_leave new) (synced_told read seen old)
      (pending_told read seen old ++ o ∷ [])
  -- one that was added leaves what is synced as it was,
  pub kept : (old new : RecordLog D) (bytes : List ℕ) → IsLog seen may_leave is_usable old
      → AppendsOne seen old new bytes → synced_told read seen new ≡ synced_told read seen old
  -- and what it tells waits behind the others
  pub waits : (old new : RecordLog D) (bytes : List ℕ) (o : A) → IsLog seen may_leave is_usable old
      → read bytes ≡ o → AppendsOne seen old new bytes
      → pending_told read seen new ≡ pending_told read seen old ++ o ∷ []
  -- a sync adds what waited behind what was synced,
  pub synced : (old new : RecordLog D) → IsReady seen may_leave is_usable old
      → SyncsAll seen old new
      → synced_told read seen new ≡ synced_told read seen old ++ pending_told read seen old
  -- the heading stays synced,
  pub headed : (old new : RecordLog D) → IsReady seen may_leave is_usable old
      → SyncsAll seen old new → 1 ≤ new.synced
  -- and where all records are synced, nothing waits
  pub none : (log : RecordLog D) → log.synced ≡ length (records_of (seen log.disk))
      → pending_told read seen log ≡ []
