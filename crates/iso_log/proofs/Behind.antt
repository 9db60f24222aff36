-- The records behind the heading, one after another, and pieces of them as they are read.
use Rattle.std.proofs.Common.{◌≡◌, ◌∙◌, ◌≤◌, ◌<◌, ℕ, zero, suc, ◌+◌, ◌-◌, ◌*◌, refl, sym, ap, arith, List, [], ◌∷◌, ◌++◌, length, take, drop, append-nil, append_assoc}
use Rattle.std.specs.Prelude.{slice_index}
use Rattle.std.proofs.lemmas.List.{take_all, ext_get_or, length-take-le, length-drop, drop-append-le}
use Rattle.sqlite_disk.specs.Disk.{Holds}
use Rattle.iso_log.specs.Slots.{slot, slots_from, records_from, records_of}
use Rattle.iso_log.specs.Log.{IsFile}
use Rattle.iso_log.specs.Headed.{behind}
use Rattle.iso_log.proofs.Crash.{sized, count_is}
use Rattle.iso_log.proofs.Slots.{slot_at, slot_len}

next_from : (slots count : ℕ) (file : List ℕ) → IsFile slots count file → (n j i : ℕ) → j + n ≡ slots → j + i < count → take (i + 1) (records_from n j file) ≡ take i (records_from n j file) ++ slot file (j + i) ∷ []
next_from slots count file is zero j i all lt = absurd (omega (arith, all, lt, is.few))
next_from slots count file is (suc n) j zero all lt =
    let at : j + 0 ≡ j = omega arith in
    rw (is.whole j (omega (arith, lt))) (ap (λ m. slot file m ∷ []) (sym at))
next_from slots count file is (suc n) j (suc i) all lt =
    let at : j + 1 + i ≡ j + suc i = omega arith in
    let more : suc i + 1 ≡ suc (i + 1) = omega arith in
    rw (is.whole j (omega (arith, lt))) (ap (λ m. take m (slot file j ∷ records_from n (j + 1) file)) more
    ∙ ap (λ (l : List (List ℕ)). slot file j ∷ l) (next_from slots count file is n (j + 1) i (omega (arith, all)) (omega (arith, lt)) ∙ ap (λ m. take i (records_from n (j + 1) file) ++ slot file m ∷ []) at))

next_record : (slots count : ℕ) (file : List ℕ) (place : ℕ) → IsFile slots count file → place < count → take (place + 1) (records_of file) ≡ take place (records_of file) ++ slot file place ∷ []
next_record slots count file place is lt =
    let same = sized slots file is.size in
    let at : 0 + place ≡ place = omega arith in
    ap (take (place + 1)) same ∙ next_from slots count file is slots 0 place (omega arith) (omega (arith, lt)) ∙ ap (λ m. take place (records_from slots 0 file) ++ slot file m ∷ []) at
    ∙ ap (λ (l : List (List ℕ)). take place l ++ slot file place ∷ []) (sym same)

pub one_more : (slots count : ℕ) (file : List ℕ) (place : ℕ) → IsFile slots count file → place < count → 1 ≤ place → behind (place + 1) file ≡ behind place file ++ slot file place ∷ []
one_more slots count file place is lt least =
    let long = length-take-le place (records_of file) (omega (arith, lt, count_is slots count file is)) in
    ap (drop 1) (next_record slots count file place is lt) ∙ drop-append-le 1 (take place (records_of file)) (slot file place ∷ []) (omega (arith, long, least))

pub all_behind : (slots count : ℕ) (file : List ℕ) (place : ℕ) → IsFile slots count file → count ≤ place → behind place file ≡ drop 1 (records_of file)
all_behind slots count file place is le = ap (drop 1) (take_all place (records_of file) (omega (arith, le, count_is slots count file is)))

pub length-behind : (slots count : ℕ) (file : List ℕ) (place : ℕ) → IsFile slots count file → place ≤ count → length (behind place file) ≡ place - 1
length-behind slots count file place is le =
    length-drop 1 (take place (records_of file)) ∙ ap (λ n. n - 1) (length-take-le place (records_of file) (omega (arith, le, count_is slots count file is)))

-- ---- slots, one after another

more_slots : (n j : ℕ) (bytes : List ℕ) → slots_from (n + 1) j bytes ≡ slots_from n j bytes ++ slot bytes (j + n) ∷ []
more_slots zero j bytes = let at : j + 0 ≡ j = omega arith in ap (λ m. slot bytes m ∷ []) (sym at)
more_slots (suc n) j bytes =
    let at : j + 1 + n ≡ j + suc n = omega arith in
    let more : suc n + 1 ≡ suc (n + 1) = omega arith in
    ap (λ m. slots_from m j bytes) more
    ∙ ap (λ (l : List (List ℕ)). slot bytes j ∷ l) (more_slots n (j + 1) bytes ∙ ap (λ m. slots_from n (j + 1) bytes ++ slot bytes m ∷ []) at)

pub next_slot : (n : ℕ) (bytes : List ℕ) → slots_from (n + 1) 0 bytes ≡ slots_from n 0 bytes ++ slot bytes n ∷ []
next_slot n bytes = let at : 0 + n ≡ n = omega arith in more_slots n 0 bytes ∙ ap (λ m. slots_from n 0 bytes ++ slot bytes m ∷ []) at

pub length-slots : (n j : ℕ) (bytes : List ℕ) → length (slots_from n j bytes) ≡ n
length-slots zero j bytes = refl
length-slots (suc n) j bytes = ap suc (length-slots n (j + 1) bytes)

-- what was read of a file is what it has there
module _ (count place : ℕ) (bytes file : List ℕ) (long : length bytes ≡ 128 * count) (holds : Holds file (128 * place) bytes) where
  pub same_slot : (k : ℕ) → k < count → slot bytes k ≡ slot file (place + k)
  same_slot k lt =
      let len = slot_len file (place + k) (omega (arith, holds.within, long, lt)) in
      let len_piece = slot_len bytes k (omega (arith, long, lt)) in
      ext_get_or 0 (slot bytes k) (slot file (place + k)) (len_piece ∙ sym len) (λ i below.
      let short : i < 128 = omega (arith, below, len_piece) in
      let at : 128 * place + (128 * k + i) ≡ 128 * (place + k) + i = omega arith in
      slot_at bytes k i short ∙ sym (holds.each (128 * k + i) (omega (arith, long, lt, short))) ∙ ap (λ m. slice_index file m) at ∙ sym (slot_at file (place + k) i short))

  same_from : (n j : ℕ) → j + n ≤ count → slots_from n j bytes ≡ slots_from n (place + j) file
  same_from zero j le = refl
  same_from (suc n) j le =
      let at : place + (j + 1) ≡ place + j + 1 = omega arith in
      ap (λ (s : List ℕ). s ∷ slots_from n (j + 1) bytes) (same_slot j (omega (arith, le)))
      ∙ ap (λ (l : List (List ℕ)). slot file (place + j) ∷ l) (same_from n (j + 1) (omega (arith, le)) ∙ ap (λ m. slots_from n m file) at)

  pub same_slots : (n : ℕ) → n ≤ count → slots_from n 0 bytes ≡ slots_from n place file
  same_slots n le = let at : place + 0 ≡ place = omega arith in same_from n 0 (omega (arith, le)) ∙ ap (λ m. slots_from n m file) at

-- what is behind the heading, with so many slots more
pub some_more : (slots count : ℕ) (file : List ℕ) → IsFile slots count file → (n place : ℕ) → place + n ≤ count → 1 ≤ place → behind (place + n) file ≡ behind place file ++ slots_from n place file
some_more slots count file is zero place le least =
    let at : place + 0 ≡ place = omega arith in
    ap (λ m. behind m file) at ∙ sym (append-nil (behind place file))
some_more slots count file is (suc n) place le least =
    let at : place + suc n ≡ place + 1 + n = omega arith in
    ap (λ m. behind m file) at ∙ some_more slots count file is n (place + 1) (omega (arith, le)) (omega arith)
    ∙ ap (λ (l : List (List ℕ)). l ++ slots_from n (place + 1) file) (one_more slots count file place is (omega (arith, le)) least)
    ∙ append_assoc (behind place file) (slot file place ∷ []) (slots_from n (place + 1) file)
