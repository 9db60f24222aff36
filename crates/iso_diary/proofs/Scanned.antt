-- A diary's records, as they are read.
use Rattle.std.proofs.Common.{◌≡◌, ◌∙◌, ℕ, suc, ◌+◌, Bool, false, sym, ap, subst, arith, List, [], ◌∷◌, ◌++◌, length, take, drop}
use Rattle.std.specs.Prelude.{nat_lt, Some}
use Rattle.std.proofs.lemmas.List.{take_all, drop_all}
use Rattle.sqlite_disk.specs.Disk.{Holds, Only}
use Rattle.iso_log.specs.Slots.{records_of}
use Rattle.iso_log.specs.Log.{IsLog}
use Rattle.iso_log.specs.FileLaws.{FileLaws, SlotLaws}
use Rattle.iso_diary.specs.declared.heading.HeadingFault.{HeadingFault}
use Rattle.iso_diary.specs.Heading.{heading_fault}
use Rattle.iso_diary.specs.declared.error.OpenError.{OpenError}
use Rattle.iso_diary.specs.declared.error.OpenError.TheVariants.{Memory, Disk, Unfit, Other, Damaged}
use Rattle.iso_diary.specs.declared.line.Line.{Line}
use Rattle.iso_diary.specs.Line.{line_bytes, line_in}
use Rattle.iso_diary.specs.Notes.{note_of, note_or_nothing, notes_of, diary_notes}
use Rattle.iso_diary.specs.Kept.{IsLineAt, AreLines}
use Rattle.iso_diary.specs.Why.{IsWhy, IsScanFault, other_heading}

-- the note of the bytes of a line
pub note_is : (r : Line) (bytes : List ℕ) → bytes ≡ line_bytes r → line_in (line_bytes r) ≡ Some r
    → note_of bytes ≡ r.note
note_is r bytes is back = ap note_of is ∙ ap note_or_nothing back

-- ---- lines, one after another

pub lines_more : (first : ℕ) (xs : List (List ℕ)) (r : List ℕ) → AreLines first xs → IsLineAt (first + length xs) r → AreLines first (xs ++ r ∷ [])
lines_more first [] r h is = let at : first + 0 ≡ first = omega arith in (subst (λ n. IsLineAt n r) at is, tt)
lines_more first (x ∷ xs) r h is = let at : first + suc (length xs) ≡ first + 1 + length xs = omega arith in (h.0, lines_more (first + 1) xs r h.1 (subst (λ n. IsLineAt n r) at is))

pub lines_last : (first : ℕ) (xs : List (List ℕ)) (r : List ℕ) → AreLines first (xs ++ r ∷ []) → IsLineAt (first + length xs) r
lines_last first [] r h = let at : first ≡ first + 0 = omega arith in subst (λ n. IsLineAt n r) at h.0
lines_last first (x ∷ xs) r h = let at : first + 1 + length xs ≡ first + suc (length xs) = omega arith in subst (λ n. IsLineAt n r) at (lines_last (first + 1) xs r h.1)

-- ---- why a file is refused

pub why_scan : (wanted file : List ℕ) (e : OpenError) → IsScanFault (records_of file) e → IsWhy wanted file e
why_scan wanted file (Other fault) h = absurd h
why_scan wanted file (Damaged place) h = h
why_scan wanted file Memory h = tt
why_scan wanted file Disk h = tt
why_scan wanted file Unfit h = tt

-- ---- a log that was opened

module _ (laws : FileLaws) {D : Type 0} (seen : D → List ℕ) (may_leave : D → List ℕ → Type 0) (is_usable : D → Bool)
    (d : D) (slots count : ℕ) (is : IsLog seen may_leave is_usable (record { disk = d; slots = slots; count = count; synced = count })) where
  long : count ≡ length (records_of (seen d))
  long = laws.counted slots count (seen d) is.file

  pub none_waits : notes_of (drop count (records_of (seen d))) ≡ []
  none_waits = ap notes_of (drop_all count (records_of (seen d)) (omega (arith, long)))

  pub all_synced : diary_notes (records_of (seen d)) ≡ diary_notes (take count (records_of (seen d)))
  all_synced = sym (ap diary_notes (take_all count (records_of (seen d)) (omega (arith, long))))

-- ---- the heading

-- what was read in front of a file
pub first_other : SlotLaws → (wanted file bytes : List ℕ) (fault : HeadingFault) → length bytes ≡ 128 → Holds file 0 bytes → heading_fault bytes wanted ≡ Some fault → other_heading wanted file ≡ Some fault
first_other laws wanted file bytes fault long holds is =
    let front : take 128 file ≡ bytes = sym (laws.same_slot 1 0 bytes file long holds 0 (omega arith)) ∙ take_all 128 bytes (omega (arith, long)) in
    let enough : nat_lt (length file) 128 ≡ false = grind (arith, holds.within, long) in
    rw enough (ap (λ (l : List ℕ). heading_fault l wanted) front ∙ is)

-- reading leaves what a crash may leave
pub still_only : (old new : List ℕ) (may_old may_new : List ℕ → Type 0) → new ≡ old → ((c : List ℕ) → may_new c → may_old c) → Only old may_old → Only new may_new
still_only old new may_old may_new same less only = λ c here. only c (less c here) ∙ sym same
