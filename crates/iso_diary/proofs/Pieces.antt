-- Pieces of a diary's records, as they are read.
use Rattle.std.proofs.Common.{◌≡◌, ◌∙◌, ◌≤◌, ◌<◌, ℕ, suc, ◌+◌, ◌*◌, sym, ap, subst, arith, List, [], ◌∷◌, ◌++◌, length, append_assoc}
use Rattle.std.specs.Prelude.{take, replicate}
use Rattle.std.proofs.lemmas.List.{map-append, length-take-le, length-replicate}
use Rattle.sqlite_disk.specs.Disk.{Holds}
use Rattle.iso_log.specs.Slots.{slot, records_of, slots_from}
use Rattle.iso_log.specs.Log.{IsFile}
use Rattle.iso_log.specs.Headed.{behind}
use Rattle.iso_log.specs.FileLaws.{FileLaws, SlotLaws}
use Rattle.iso_restarts.specs.declared.note.Note.{Note}
use Rattle.iso_diary.specs.Notes.{note_of, notes_of}
use Rattle.iso_diary.specs.Kept.{IsLineAt, AreLines}
use Rattle.iso_diary.specs.Why.{IsDamaged}
use Rattle.iso_diary.proofs.Scanned.{lines_more, lines_last}

-- ---- a piece, and the file

-- so many of many zeros
pub some_long : (n all : ℕ) → n ≤ all → length {A = ℕ} (take n (replicate all 0)) ≡ n
some_long n all le = length-take-le {A = ℕ} n (replicate all 0) (omega (arith, le, length-replicate {A = ℕ} all 0))

-- what was told of a piece holds of the file
module _ (laws : SlotLaws) (count place n : ℕ) (bytes file : List ℕ) (long : length bytes ≡ 128 * count) (holds : Holds file (128 * place) bytes) (within : n ≤ count) where
  same : slots_from n 0 bytes ≡ slots_from n place file
  same = laws.same_slots count place bytes file long holds n within

  pub file_read : AreLines place (slots_from n 0 bytes) → AreLines place (slots_from n place file)
  file_read h = subst (AreLines place) same h

  pub file_more : (old new : List Note) → new ≡ old ++ notes_of (slots_from n 0 bytes) → new ≡ old ++ notes_of (slots_from n place file)
  file_more old new h = h ∙ ap (λ (l : List (List ℕ)). old ++ notes_of l) same

  pub file_not : n < count → (IsLineAt (place + n) (slot bytes n) → ⊥) → IsLineAt (place + n) (slot file (place + n)) → ⊥
  file_not lt not h = not (subst (IsLineAt (place + n)) (sym (laws.same_slot count place bytes file long holds n lt)) h)

-- ---- one record of a piece after another

pub one_noted : SlotLaws → (old now new : List Note) (place : ℕ) (piece bytes : List ℕ) → bytes ≡ slot piece place → now ≡ old ++ notes_of (slots_from place 0 piece) → new ≡ now ++ note_of bytes ∷ []
    → new ≡ old ++ notes_of (slots_from (place + 1) 0 piece)
one_noted laws old now new place piece bytes is now_is more =
    let before = slots_from place 0 piece in
    more ∙ ap (λ (l : List Note). l ++ note_of bytes ∷ []) now_is ∙ append_assoc old (notes_of before) (note_of bytes ∷ [])
    ∙ ap (λ (l : List Note). old ++ l) (sym (map-append note_of before (bytes ∷ [])) ∙ ap (λ (b : List ℕ). notes_of (before ++ b ∷ [])) is ∙ ap notes_of (sym (laws.next place piece)))

pub one_read : SlotLaws → (first place : ℕ) (piece bytes : List ℕ) → bytes ≡ slot piece place → AreLines first (slots_from place 0 piece) → IsLineAt (first + place) bytes → AreLines first (slots_from (place + 1) 0 piece)
one_read laws first place piece bytes is so_far line =
    let before = slots_from place 0 piece in
    subst (AreLines first) (sym (laws.next place piece))
    (lines_more first before (slot piece place) so_far (subst (λ n. IsLineAt (first + n) (slot piece place)) (sym (laws.many place 0 piece)) (subst (IsLineAt (first + place)) is line)))

-- ---- one piece after another

lines_on : (first : ℕ) (xs ys : List (List ℕ)) → AreLines first xs → AreLines (first + length xs) ys → AreLines first (xs ++ ys)
lines_on first [] ys h is = let at : first + 0 ≡ first = omega arith in subst (λ n. AreLines n ys) at is
lines_on first (x ∷ xs) ys h is = let at : first + suc (length xs) ≡ first + 1 + length xs = omega arith in (h.0, lines_on (first + 1) xs ys h.1 (subst (λ n. AreLines n ys) at is))

module _ (laws : FileLaws) (slots count : ℕ) (file : List ℕ) (place n : ℕ) (is : IsFile slots count file) (le : place + n ≤ count) (least : 1 ≤ place) where
  next : behind (place + n) file ≡ behind place file ++ slots_from n place file
  next = laws.more slots count file is n place le least

  pub some_noted : (old new : List Note) → old ≡ notes_of (behind place file) → new ≡ old ++ notes_of (slots_from n place file) → new ≡ notes_of (behind (place + n) file)
  some_noted old new old_is more =
      more ∙ ap (λ (l : List Note). l ++ notes_of (slots_from n place file)) old_is ∙ sym (map-append note_of (behind place file) (slots_from n place file)) ∙ ap notes_of (sym next)

  pub some_read : AreLines 1 (behind place file) → AreLines place (slots_from n place file) → AreLines 1 (behind (place + n) file)
  some_read front lines =
      let at : place ≡ 1 + length (behind place file) = omega (arith, least, laws.fewer slots count file place is (omega (arith, le))) in
      subst (AreLines 1) (sym next) (lines_on 1 (behind place file) (slots_from n place file) front (subst (λ m. AreLines m (slots_from n place file)) at lines))

  pub some_damaged : place + n < count → AreLines 1 (behind place file) → AreLines place (slots_from n place file) → (IsLineAt (place + n) (slot file (place + n)) → ⊥) → IsDamaged (place + n) (records_of file)
  some_damaged lt front lines not = record {
    there = omega (arith, lt, laws.counted slots count file is);
    front = some_read front lines;
    not = λ all.
        let bad = slot file (place + n) in
        let at : 1 + length (behind (place + n) file) ≡ place + n = omega (arith, least, laws.fewer slots count file (place + n) is (omega (arith, lt))) in
        not (subst (λ m. IsLineAt m bad) at (lines_last 1 (behind (place + n) file) bad (subst (AreLines 1) (laws.next slots count file (place + n) is lt (omega (arith, least))) all)));
  }
