-- Many slots that are read, or written, at once.
use Rattle.std.proofs.Common.{◌≡◌, ◌⊎◌, ◌≤◌, ◌<◌, ℕ, zero, suc, ◌+◌, ◌*◌, ◌-◌, ◌/◌, Bool, true, false, refl, arith, ap, sym, ◌∙◌, subst, List, [], ◌∷◌, length, take, drop, inl, inr}
use Rattle.std.specs.Prelude.{nat_lt, slice_index, replicate, if◌then◌else◌}
use Rattle.std.specs.List.{list_all}
use Rattle.std.proofs.lemmas.List.{ext_get_or, take-replicate, length-replicate, get_or-replicate}
use Rattle.sqlite_disk.specs.Disk.{Torn, Holds, Cut}
use Rattle.iso_log.specs.Slots.{is_nonzero, is_whole, slot, records_from, records_of}
use Rattle.iso_log.specs.Log.{IsFirst}
use Rattle.iso_log.proofs.Slots.{slot_same, slot_at, slot_len}

-- ---- zeros

abbrev pub zeros : ℕ → List ℕ
zeros n = replicate n 0

-- so many of many zeros
pub some_zeros : (n all : ℕ) → n ≤ all → take n (zeros all) ≡ zeros n
some_zeros n all le = take-replicate n all 0 le

pub zeros_long : (n : ℕ) → length (zeros n) ≡ n
zeros_long n = length-replicate n 0

pub some_long : (n all : ℕ) → n ≤ all → length (take n (zeros all)) ≡ n
some_long n all le = ap (λ (l : List ℕ). length l) (some_zeros n all le) ∙ zeros_long n

pub zero_at : (n i : ℕ) → i < n → slice_index (zeros n) i ≡ 0
zero_at n i lt = get_or-replicate n i 0 0 lt

-- ---- whole slots

-- a slot that was looked at
pub slot_whole : (bytes : List ℕ) (place n : ℕ) (b : Bool) → n ≡ 128 → 128 * place + 128 ≤ length bytes → b ≡ list_all is_nonzero (take n (drop (128 * place) bytes)) → is_whole (slot bytes place) ≡ b
slot_whole bytes place n b is fits found =
    let whole : is_whole (slot bytes place) ≡ list_all is_nonzero (slot bytes place) = rw (slot_len bytes place fits) refl in
    whole ∙ sym (found ∙ ap (λ (m : ℕ). list_all is_nonzero (take m (drop (128 * place) bytes))) is)

-- one more
pub whole_next : (bytes : List ℕ) (place : ℕ) → ((j : ℕ) → j < place → is_whole (slot bytes j) ≡ true) → is_whole (slot bytes place) ≡ true → (j : ℕ) → j < place + 1 → is_whole (slot bytes j) ≡ true
whole_next bytes place so_far here j lt = by_place (nat_lt j place) refl
  where
    by_place : (p : Bool) → nat_lt j place ≡ p → is_whole (slot bytes j) ≡ true
    by_place true e = so_far j (grind (arith, e))
    by_place false e = let same : j ≡ place = grind (arith, e, lt) in ap (λ m. is_whole (slot bytes m)) same ∙ here

-- what was found in a piece holds of the file
module _ (place count end : ℕ) (bytes file : List ℕ) (long : length bytes ≡ 128 * count) (holds : Holds file (128 * place) bytes) (first : IsFirst 0 (length bytes / 128) end bytes) where
  same_slot : (k : ℕ) → k < count → slot file (place + k) ≡ slot bytes k
  same_slot k lt =
      let len = slot_len file (place + k) (omega (arith, holds.within, long, lt)) in
      let len_piece = slot_len bytes k (omega (arith, long, lt)) in
      ext_get_or 0 (slot file (place + k)) (slot bytes k) (len ∙ sym len_piece) (λ i below.
      let short : i < 128 = omega (arith, below, len) in
      let at : 128 * (place + k) + i ≡ 128 * place + (128 * k + i) = omega arith in
      slot_at file (place + k) i short ∙ ap (λ m. slice_index file m) at ∙ holds.each (128 * k + i) (omega (arith, long, lt, short)) ∙ sym (slot_at bytes k i short))

  pub piece_first : IsFirst place (place + count) (place + end) file
  piece_first =
      let all : length bytes / 128 ≡ count = omega (arith, long) in
      record {
        within = omega (arith, first.within, all);
        whole = λ j least lt.
            let k = j - place in
            let at : place + k ≡ j = omega (arith, least) in
            ap (λ m. is_whole (slot file m)) (sym at) ∙ ap is_whole (same_slot k (omega (arith, lt, at, first.within, all))) ∙ first.whole k (omega arith) (omega (arith, lt, at));
        not_whole = λ lt. ap is_whole (same_slot end (omega (arith, lt))) ∙ first.not_whole (omega (arith, lt, all));
      }

-- piece after piece
pub whole_more : (place to end : ℕ) (file : List ℕ) → ((j : ℕ) → j < place → is_whole (slot file j) ≡ true) → IsFirst place to end file → (j : ℕ) → j < end → is_whole (slot file j) ≡ true
whole_more place to end file so_far first j lt = by_place (nat_lt j place) refl
  where
    by_place : (p : Bool) → nat_lt j place ≡ p → is_whole (slot file j) ≡ true
    by_place true e = so_far j (grind (arith, e))
    by_place false e = first.whole j (grind (arith, e)) lt

pub first_found : (place to end slots : ℕ) (file : List ℕ) → ((j : ℕ) → j < place → is_whole (slot file j) ≡ true) → IsFirst place to end file → end < to → to ≤ slots → IsFirst 0 slots end file
first_found place to end slots file so_far first lt le = record {
  within = omega (arith, lt, le);
  whole = λ j least below. whole_more place to end file so_far first j below;
  not_whole = λ below. first.not_whole lt;
}

-- ---- bytes that are written again

-- the same bytes at the same places
pub same_again : (at : ℕ) (bytes file c : List ℕ) → Holds file at bytes → Torn at (length bytes) file c
    → ((i : ℕ) → i < length bytes → (slice_index c (at + i) ≡ slice_index file (at + i)) ⊎ (slice_index c (at + i) ≡ slice_index bytes i)) → c ≡ file
same_again at bytes file c holds torn each = ext_get_or 0 c file size (λ i lt. by_place i (omega (arith, lt, size)) (nat_lt i at) (nat_lt i (at + length bytes)) refl refl)
  where
    size : length c ≡ length file
    size = omega (arith, torn.no_shorter, torn.no_longer, holds.within)

    inside : (k : ℕ) → k < length bytes → (slice_index c (at + k) ≡ slice_index file (at + k)) ⊎ (slice_index c (at + k) ≡ slice_index bytes k) → slice_index c (at + k) ≡ slice_index file (at + k)
    inside k lt (inl same) = same
    inside k lt (inr again) = again ∙ sym (holds.each k lt)

    by_place : (i : ℕ) → i < length file → (p q : Bool) → nat_lt i at ≡ p → nat_lt i (at + length bytes) ≡ q → slice_index c i ≡ slice_index file i
    by_place i lt true q e f = torn.below i lt (grind (arith, e))
    by_place i lt false false e f = torn.above i lt (grind (arith, f))
    by_place i lt false true e f =
        let after : at ≤ i = grind (arith, e) in
        let within : i < at + length bytes = grind (arith, f) in
        let k = i - at in
        let same : at + k ≡ i = omega (arith, after) in
        let short : k < length bytes = omega (arith, within, after) in
        subst (λ m. slice_index c m ≡ slice_index file m) same (inside k short (each k short))

-- ---- a file that is cut back to whole slots

same_from : (c file : List ℕ) (slots : ℕ) → ((k : ℕ) → k < slots → slot c k ≡ slot file k) → (n j : ℕ) → j + n ≡ slots → records_from n j c ≡ records_from n j file
same_from c file slots same zero j all = refl
same_from c file slots same (suc n) j all =
    ap (λ (s : List ℕ). if is_whole s then s ∷ records_from n (j + 1) c else []) (same j (omega (arith, all)))
    ∙ ap (λ (l : List (List ℕ)). if is_whole (slot file j) then slot file j ∷ l else []) (same_from c file slots same n (j + 1) (omega (arith, all)))

pub cut_records : (slots : ℕ) (file c : List ℕ) → slots ≡ length file / 128 → Cut (128 * slots) file c → records_of c ≡ records_of file
cut_records slots file c is cut =
    let least : 128 * slots ≤ length file = omega (arith, is) in
    let all : length c / 128 ≡ slots = omega (arith, is, cut.no_shorter, cut.no_longer) in
    let enough : 128 * slots ≤ length c = omega (arith, is, cut.no_shorter) in
    ap (λ n. records_from n 0 c) all
    ∙ same_from c file slots (λ k lt. slot_same c file k (omega (arith, lt, enough)) (omega (arith, lt, least)) (λ i below. cut.below (128 * k + i) (omega (arith, lt, below, least)) (omega (arith, lt, below)))) slots 0 (omega arith)
    ∙ ap (λ n. records_from n 0 file) is

-- however the cut ends
pub cut_left : (len : ℕ) (file d c : List ℕ) → len ≡ length file → d ≡ file → Cut (128 * (len / 128)) d c → records_of c ≡ records_of file
cut_left len file d c is was cut = cut_records (len / 128) file c (ap (λ m. m / 128) is) (subst (λ (f : List ℕ). Cut (128 * (len / 128)) f c) was cut)
