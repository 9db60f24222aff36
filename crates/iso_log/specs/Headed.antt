-- A log whose first record is a heading, and what its other records tell by one reading of a record.
use Rattle.std.specs.Prelude.{◌≡◌, ◌≤◌, ℕ, Bool, List, [], ◌∷◌, ◌++◌, length, map, take, drop}
use Rattle.iso_log.specs.declared.log.RecordLog.{RecordLog}
use Rattle.iso_log.specs.Slots.{records_of}
use Rattle.iso_log.specs.Log.{IsLog}

-- a log of records, whose heading is synced
pub record IsReady {D : Type 0} (seen : D → List ℕ) (may_leave : D → List ℕ → Type 0)
    (is_usable : D → Bool) (log : RecordLog D) : Type 0 where
  pub log_is : IsLog seen may_leave is_usable log
  pub headed : 1 ≤ log.synced

-- the records behind the heading, up to a place
abbrev pub behind : ℕ → List ℕ → List (List ℕ)
behind place file = drop 1 (take place (records_of file))

-- what a sync leaves: the records as they were, all of them synced
pub record SyncsAll {D : Type 0} (seen : D → List ℕ) (old new : RecordLog D) : Type 0 where
  pub all : new.synced ≡ length (records_of (seen new.disk))
  pub same : records_of (seen new.disk) ≡ records_of (seen old.disk)

-- what an append leaves: a record more, and as many synced as before
pub record AppendsOne {D : Type 0} (seen : D → List ℕ) (old new : RecordLog D)
    (bytes : List ℕ) : Type 0 where
  pub synced : new.synced ≡ old.synced
  pub more : records_of (seen new.disk) ≡ records_of (seen old.disk) ++ bytes ∷ []

-- what was synced, and of what waits some from the front
abbrev pub LeavesFront : {A : Type 0} → (List A → Type 0) → List A → List A → Type 0
LeavesFront {A} may_leave synced pending = (told : List A) → may_leave told
    → (n : ℕ) × (told ≡ synced ++ take n pending)

module _ {A : Type 0} (read : List ℕ → A) where
  -- what all records but the first tell
  abbrev pub told_behind : List (List ℕ) → List A
  told_behind records = map read (drop 1 records)

  -- what a start is told by a file that a crash may leave
  abbrev pub LeavesTold : {D : Type 0} → (D → List ℕ → Type 0) → RecordLog D → List A → Type 0
  LeavesTold may_leave log told = (c : List ℕ) × may_leave log.disk c
      × (told ≡ told_behind (records_of c))

  module _ {D : Type 0} (seen : D → List ℕ) (log : RecordLog D) where
    -- what no crash takes away
    abbrev pub synced_told : List A
    synced_told = told_behind (take log.synced (records_of (seen log.disk)))

    -- what waits for a sync
    abbrev pub pending_told : List A
    pending_told = map read (drop log.synced (records_of (seen log.disk)))
