-- What a crash leaves of a log whose first record is a heading, as what its other records tell.
use Rattle.std.proofs.Common.{◌≡◌, ◌∙◌, ◌≤◌, ℕ, zero, suc, Bool, refl, sym, ap, arith, List, [], ◌∷◌, ◌++◌, length, take, drop, map, length-append, take-append-drop}
use Rattle.std.proofs.lemmas.List.{take-append-le, take_all, take-map, map-append, length-take-le, drop-append-le, drop_all}
use Rattle.iso_log.specs.declared.log.RecordLog.{RecordLog}
use Rattle.iso_log.specs.Slots.{records_of}
use Rattle.iso_log.specs.Log.{IsLog, LeavesRecords}
use Rattle.iso_log.specs.Headed.{told_behind, synced_told, pending_told, LeavesTold, LeavesFront, IsReady, SyncsAll, AppendsOne}
use Rattle.iso_log.proofs.Crash.{count_is}

-- a front is the synced ones, and a front of the rest
front_split : (s m : ℕ) (xs : List (List ℕ)) → s ≤ m
    → (n : ℕ) × (take m xs ≡ take s xs ++ take n (drop s xs))
front_split zero m xs le = (m, refl)
front_split (suc s) zero xs le = absurd (omega (arith, le))
front_split (suc s) (suc m) [] le = (0, refl)
front_split (suc s) (suc m) (x ∷ xs) le =
    let rest = front_split s m xs (omega (arith, le)) in
    (rest.0, ap (λ (l : List (List ℕ)). x ∷ l) rest.1)

-- a crash leaves the first of these records, and no fewer than are synced; the heading is synced
record LeavesHeaded (may_leave : List ℕ → Type 0) (synced : ℕ)
    (records : List (List ℕ)) : Type 0 where
  least : 1 ≤ synced
  few : synced ≤ length records
  leaves : LeavesRecords may_leave synced records

-- ---- what the records tell

module _ {A : Type 0} (read : List ℕ → A) where
  -- what is behind the heading, and records behind it
  behind_append : (xs ys : List (List ℕ)) → 1 ≤ length xs
      → told_behind read (xs ++ ys) ≡ told_behind read xs ++ map read ys
  behind_append xs ys some = ap (map read) (drop-append-le 1 xs ys some) ∙ map-append read (drop 1 xs) ys

  -- where all records are synced, nothing waits
  pub none_pending : {D : Type 0} → (seen : D → List ℕ) → (log : RecordLog D)
      → log.synced ≡ length (records_of (seen log.disk)) → pending_told read seen log ≡ []
  none_pending seen log all =
      ap (map read) (drop_all log.synced (records_of (seen log.disk)) (omega (arith, all)))

  -- what a log leaves whose records a crash leaves so
  leaves_headed : {D : Type 0} → (may_leave : D → List ℕ → Type 0) → (new : RecordLog D)
      → {synced : ℕ} → {records : List (List ℕ)}
      → LeavesHeaded (may_leave new.disk) synced records
      → LeavesFront (LeavesTold read may_leave new) (told_behind read (take synced records))
      (map read (drop synced records))
  leaves_headed may_leave new {synced} {records} left_so = λ told left.
      let found = left_so.leaves left.0 left.1 in
      let split = front_split synced found.0 records found.1 in (
        split.0,
        left.2 ∙ ap (told_behind read) (found.2 ∙ split.1) ∙ behind_append (take synced records)
            (take split.0 (drop synced records))
            (omega (arith, left_so.least, length-take-le synced records left_so.few))
            ∙ ap (λ (l : List A). told_behind read (take synced records) ++ l)
            (sym (take-map read split.0 (drop synced records))),
      )

  module _ {D : Type 0} {seen : D → List ℕ} {may_leave : D → List ℕ → Type 0}
      {is_usable : D → Bool} where
    -- the synced records are there
    synced_few : (log : RecordLog D) → IsLog seen may_leave is_usable log
        → log.synced ≤ length (records_of (seen log.disk))
    synced_few log is = omega (arith, is.some, count_is log.slots log.count (seen log.disk) is.file)

    -- what a log leaves whose records a crash leaves from the front, as those of a ready one
    pub leaves_front : (old new : RecordLog D) → IsReady seen may_leave is_usable old
        → LeavesRecords (may_leave new.disk) old.synced (records_of (seen old.disk))
        → LeavesFront (LeavesTold read may_leave new) (synced_told read seen old) (pending_told read seen old)
    leaves_front old new is leaves =
        leaves_headed may_leave new {synced = old.synced} {records = records_of (seen old.disk)}
        (record { least = is.headed; few = synced_few old is.log_is; leaves = leaves })

    -- a record more, and what was synced is as it was
    pub synced_same : (old new : RecordLog D) (bytes : List ℕ)
        → IsLog seen may_leave is_usable old → AppendsOne seen old new bytes
        → synced_told read seen new ≡ synced_told read seen old
    synced_same old new bytes is appends =
        let rs = records_of (seen old.disk) in
        ap (λ n. told_behind read (take n (records_of (seen new.disk)))) appends.synced
        ∙ ap (λ (l : List (List ℕ)). told_behind read (take old.synced l)) appends.more
        ∙ ap (told_behind read) (take-append-le old.synced rs (bytes ∷ []) (synced_few old is))

    -- a record more adds what it tells behind what waits
    pending_more : (old : RecordLog D) → (bytes : List ℕ) → {o : A}
        → IsLog seen may_leave is_usable old → read bytes ≡ o
        → map read (drop old.synced (records_of (seen old.disk) ++ bytes ∷ []))
        ≡ pending_told read seen old ++ o ∷ []
    pending_more old bytes {o} is same =
        let rs = records_of (seen old.disk) in
        ap (map read) (drop-append-le old.synced rs (bytes ∷ []) (synced_few old is))
        ∙ map-append read (drop old.synced rs) (bytes ∷ [])
        ∙ ap (λ (p : A). pending_told read seen old ++ p ∷ []) same

    -- so it does in the log that has the record
    pub pending_new : (old new : RecordLog D) (bytes : List ℕ) (o : A)
        → IsLog seen may_leave is_usable old → read bytes ≡ o → AppendsOne seen old new bytes
        → pending_told read seen new ≡ pending_told read seen old ++ o ∷ []
    pending_new old new bytes o is same appends =
        ap (λ n. map read (drop n (records_of (seen new.disk)))) appends.synced
        ∙ ap (λ (l : List (List ℕ)). map read (drop old.synced l)) appends.more
        ∙ pending_more old bytes is same

    -- a crash while a record is added
    pub append_front : (old new : RecordLog D) (bytes : List ℕ) (o : A)
        → IsReady seen may_leave is_usable old → read bytes ≡ o
        → LeavesRecords (may_leave new.disk) old.synced (records_of (seen old.disk) ++ bytes ∷ [])
        → LeavesFront (LeavesTold read may_leave new) (synced_told read seen old)
        (pending_told read seen old ++ o ∷ [])
    append_front old new bytes o is same leaves = λ told left.
        let rs = records_of (seen old.disk) in
        let few = synced_few old is.log_is in
        let still : old.synced ≤ length (rs ++ bytes ∷ []) =
        omega (arith, few, length-append rs (bytes ∷ [])) in
        let found = leaves_headed may_leave new {synced = old.synced} {records = rs ++ bytes ∷ []}
        (record { least = is.headed; few = still; leaves = leaves }) told left in (
          found.0,
          found.1
              ∙ ap (λ (l : List (List ℕ)). told_behind read l
              ++ take found.0 (map read (drop old.synced (rs ++ bytes ∷ []))))
              (take-append-le old.synced rs (bytes ∷ []) few)
              ∙ ap (λ (l : List A). synced_told read seen old ++ take found.0 l)
              (pending_more old bytes is.log_is same),
        )

    -- after a sync
    pub all_synced : (old new : RecordLog D) → IsReady seen may_leave is_usable old
        → SyncsAll seen old new
        → synced_told read seen new ≡ synced_told read seen old ++ pending_told read seen old
    all_synced old new is syncs =
        let rs = records_of (seen old.disk) in
        let now = records_of (seen new.disk) in
        ap (λ n. told_behind read (take n now)) syncs.all
        ∙ ap (told_behind read) (take_all (length now) now (omega arith)) ∙ ap (told_behind read) syncs.same
        ∙ sym (ap (told_behind read) (take-append-drop old.synced rs))
        ∙ behind_append (take old.synced rs) (drop old.synced rs)
        (omega (arith, is.headed, length-take-le old.synced rs (synced_few old is.log_is)))

    -- the heading stays synced
    pub still_headed : (old new : RecordLog D) → IsReady seen may_leave is_usable old
        → SyncsAll seen old new → 1 ≤ new.synced
    still_headed old new is syncs =
        omega (arith, is.headed, synced_few old is.log_is, syncs.all, ap length syncs.same)
