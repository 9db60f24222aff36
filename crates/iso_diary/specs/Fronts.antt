-- What a crash leaves of a diary.
-- Inner: bodies and proofs cite it, and no public clause does.
use Rattle.std.proofs.Common.{◌≡◌, ◌∙◌, ◌≤◌, ℕ, zero, suc, ◌+◌, ◌-◌, Bool, List, [], ◌∷◌, ◌++◌, take, drop, take-append-drop, refl, sym, ap, arith}
use Rattle.std.proofs.lemmas.List.{take-take, drop-take, take-map, map-append}
use Rattle.iso_log.specs.declared.log.RecordLog.{RecordLog}
use Rattle.iso_log.specs.Slots.{records_of}
use Rattle.iso_log.specs.Headed.{IsReady}
use Rattle.iso_restarts.specs.Front.{LeavesFront}
use Rattle.iso_restarts.specs.declared.note.Note.{Note}
use Rattle.iso_diary.specs.Notes.{note_of, notes_of, synced_notes, pending_notes, LeavesNotes}

-- so many from the front are fewer of them, and some of those behind, from the front
front_split : (s m : ℕ) (xs : List (List ℕ)) → s ≤ m
    → take m xs ≡ take s xs ++ take (m - s) (drop s xs)
front_split s m xs le =
    let at : m ≡ s + (m - s) = omega (arith, le) in
    sym (take-append-drop s (take m xs))
    ∙ ap (λ (l : List (List ℕ)). l ++ drop s (take m xs)) (take-take s m xs le)
    ∙ ap (λ (l : List (List ℕ)). take s xs ++ l)
    (ap (λ k. drop s (take k xs)) at ∙ drop-take s (m - s) xs)

-- the same without the first of all
front_behind : (s m : ℕ) (xs : List (List ℕ)) → 1 ≤ s → s ≤ m
    → (n : ℕ) × (drop 1 (take m xs) ≡ drop 1 (take s xs) ++ take n (drop s xs))
front_behind zero m xs some le = absurd (omega (arith, some))
front_behind (suc s) zero xs some le = absurd (omega (arith, le))
front_behind (suc s) (suc m) [] some le = (0, refl)
front_behind (suc s) (suc m) (x ∷ xs) some le = (m - s, front_split s m xs (omega (arith, le)))

-- a crash leaves the notes that are synced, and of those that wait some from the front
pub ready_leaves : {D : Type 0} → {seen : D → List ℕ} → {may_leave : D → List ℕ → Type 0}
    → {is_usable : D → Bool} → (log : RecordLog D) → IsReady seen may_leave is_usable log
    → LeavesFront (LeavesNotes may_leave log) (synced_notes seen log) (pending_notes seen log)
ready_leaves {seen = seen} log is = λ notes left.
    let rs = records_of (seen log.disk) in
    let found = is.log_is.leaves left.0 left.1 in
    let front = front_behind log.synced found.0 rs is.headed found.1 in (
      front.0,
      left.2 ∙ ap notes_of (ap (drop 1) found.2 ∙ front.1)
          ∙ map-append note_of (drop 1 (take log.synced rs)) (take front.0 (drop log.synced rs))
          ∙ ap (λ (l : List Note). synced_notes seen log ++ l)
          (sym (take-map note_of front.0 (drop log.synced rs))),
    )
