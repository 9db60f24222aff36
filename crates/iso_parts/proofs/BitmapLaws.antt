-- Bitmaps that are read are those that the bytes spell, and those that are spelled are read.
use Rattle.std.proofs.Common.{◌≡◌, ◌≢◌, ℕ, ◌+◌, ◌-◌, ◌*◌, ◌/◌, ◌%◌, ◌^◌, ◌<◌, ◌≤◌, Bool, true, false, cond, eqb, ltb, List, ◌++◌, length, take, drop, get_or, Option, Some, None, Result, Ok, Err, refl, sym, ap, subst, ◌∙◌, arith, inl, inr}
use Rattle.std.specs.Int.{bit_at}
use Rattle.std.proofs.Math.Path.{fun_ext}
use Rattle.std.proofs.lemmas.Bool.{cases_eq, cases_lt, ltb-false, ltb-true, le-ltb, lt-ltb, cond-true, cond-false}
use Rattle.std.proofs.lemmas.Bool.Decides.{nat_tests}
use Rattle.std.proofs.lemmas.Nat.Bits.{bit_at_above, bit_at_cat_low, bit_at-zero}
use Rattle.std.proofs.lemmas.List.{take_at, length-append, length-take, length-drop, take-append-le, drop-append-le, take-take, drop-take, get_or-take, get_or-drop, get_or_past}
use Rattle.iso_parts.specs.declared.bitmap.Bitmap.{Bitmap}
use Rattle.iso_parts.specs.declared.bitmap.BitmapCoding.{BitmapCoding}
use Rattle.iso_parts.specs.declared.bitmap.BitmapCoding.TheVariants.{Raw, Hex}
use Rattle.iso_parts.specs.declared.bitmap.BitmapCause.TheVariants.{ThirdBitmap}
use Rattle.iso_parts.specs.declared.bitmap.BitmapFault.{BitmapFault}
use Rattle.iso_parts.specs.declared.bitmap.BitmapStep.{BitmapStep}
use Rattle.iso_parts.specs.declared.bitmap.BitmapStep.TheVariants as steps
use Rattle.iso_parts.specs.Bitmap.{BitsIn, map_size, contains, in_words, AreElements, primary_bits, secondary_bits, One, Two, Bitmaps}
use Rattle.iso_parts.specs.BitmapReading.{Maps, IfRead, got, more, fault, top, word_in, primary_by, secondary_by, maps_at, ReadsMaps, FoundMaps, IsSetRead}
use Rattle.iso_parts.proofs.Words.{word_again, word_taken}

-- ---- words and their first bit

low_bits : (w i : ℕ) → top ≤ w → i < 63 → bit_at (w - top) i ≡ bit_at w i
low_bits w i le lt =
    let whole : w ≡ 1 * 2 ^ 63 + (w - top) = omega arith in
    sym (ap (λ (n : ℕ). bit_at n i) whole ∙ bit_at_cat_low 1 63 (w - top) i lt)

small_first : (w : ℕ) → w < top → eqb (bit_at w 63) 1 ≡ false
small_first w lt = let e : w / 2 ^ 63 % 2 ≡ 0 = omega arith in ap (λ (n : ℕ). eqb n 1) e

pub first_small : (w : ℕ) → w < 2 ^ 64 → eqb (bit_at w 63) 1 ≡ false → w < top
first_small w fits h =
    elim (cases_lt w top) [
      | inl lt ↦ lt
      | inr le ↦ let e : w / 2 ^ 63 % 2 ≡ 1 = omega arith in absurd (let f : true ≡ false = sym (ap (λ (n : ℕ). eqb n 1) e) ∙ h in cc)
    ]

pub large_first : (w : ℕ) → w < 2 ^ 64 → top ≤ w → eqb (bit_at w 63) 1 ≡ true
large_first w fits le = let e : w / 2 ^ 63 % 2 ≡ 1 = omega arith in ap (λ (n : ℕ). eqb n 1) e

pub first_large : (w : ℕ) → eqb (bit_at w 63) 1 ≡ true → top ≤ w
first_large w h =
    elim (cases_lt w top) [
      | inl lt ↦ absurd (let f : true ≡ false = sym h ∙ small_first w lt in cc)
      | inr le ↦ le
    ]

pub bytes_take : (n : ℕ) (b : List ℕ) → ((i : ℕ) → get_or b i 0 < 256) → (i : ℕ) → get_or (take n b) i 0 < 256
bytes_take n b h i =
    elim (cases_lt i n) [
      | inl lt ↦ rw (get_or-take n b i 0 lt) (h i)
      | inr le ↦ rw (get_or_past (take n b) i 0 (omega (arith, length-take n b))) (omega arith)
    ]

pub bytes_drop : (n : ℕ) (b : List ℕ) → ((i : ℕ) → get_or b i 0 < 256) → (i : ℕ) → get_or (drop n b) i 0 < 256
bytes_drop n b h i = rw get_or-drop (h (n + i))

-- a bitmap of one set is a bitmap of another with the same numbers
pub bits_agree : (c : BitmapCoding) (set other : ℕ → Bool) (b : List ℕ) → ((k : ℕ) → 0 < k → k ≤ 64 → set k ≡ other k) → BitsIn c set b → BitsIn c other b
bits_agree Raw set other b agrees bits = record { eight = bits.eight; bit = λ k low high. bits.bit k low high ∙ agrees k low high }
bits_agree Hex set other b agrees bits = (bits.0, bits.1, record { eight = bits.2.eight; bit = λ k low high. bits.2.bit k low high ∙ agrees k low high })

-- ---- what is spelled is read

pub record MapsRead (c : BitmapCoding) (set : ℕ → Bool) (b : List ℕ) (size : ℕ) : Type 0 where
  pub primary : ℕ
  pub secondary : ℕ
  pub read : maps_at c b ≡ got primary secondary size
  pub agrees : (k : ℕ) → 2 ≤ k → k ≤ 128 → in_words primary secondary k ≡ set k

one_agrees : (set : ℕ → Bool) (w : ℕ) → ((k : ℕ) → 0 < k → k ≤ 64 → eqb (bit_at w (64 - k)) 1 ≡ primary_bits false set k) → ((k : ℕ) → 64 < k → k ≤ 128 → set k ≡ false) → (k : ℕ) → 2 ≤ k → k ≤ 128 → in_words w 0 k ≡ set k
one_agrees set w bits none k low high =
    elim (cases_lt 64 k) [
      | inl above ↦ let z = bit_at-zero (128 - k) in let n = none k above high in grind (arith, nat_tests)
      | inr below ↦ let h = bits k (omega arith) below in grind (arith, nat_tests)
    ]

one_read : (c : BitmapCoding) (set : ℕ → Bool) (m rest : List ℕ) → ((i : ℕ) → get_or m i 0 < 256) → One c set m → MapsRead c set (m ++ rest) (length m)
one_read c set m rest fits one =
    let r = word_again c (primary_bits false set) m fits one.primary in
    let w = r.word in
    let n = map_size c in
    let b : List ℕ = m ++ rest in
    let small : w < top = first_small w r.small (r.bits 1 (omega arith) (omega arith)) in
    let long : ltb (length b) n ≡ false = le-ltb (length b) n (omega (arith, length-append m rest, r.size)) in
    let front : word_in c (take n b) ≡ Some w = ap (word_in c) (take_at m rest n r.size) ∙ r.read in
    record {
      primary = w;
      secondary = 0;
      read = cond-false (ltb (length b) n) more (primary_by c b (word_in c (take n b))) long
          ∙ ap (primary_by c b) front
          ∙ cond-true (ltb w top) (got w 0 n) (cond (ltb (length b) (n + n)) more (secondary_by c (w - top) (word_in c (take n (drop n b))))) (lt-ltb w top small)
          ∙ ap (got w 0) (sym r.size);
      agrees = one_agrees set w r.bits one.none;
    }

two_agrees : (set : ℕ → Bool) (w v : ℕ) → top ≤ w → ((k : ℕ) → 0 < k → k ≤ 64 → eqb (bit_at w (64 - k)) 1 ≡ primary_bits true set k) → ((k : ℕ) → 0 < k → k ≤ 64 → eqb (bit_at v (64 - k)) 1 ≡ secondary_bits set k) → (k : ℕ) → 2 ≤ k → k ≤ 128 → in_words (w - top) v k ≡ set k
two_agrees set w v large primary secondary k low high =
    elim (cases_lt 64 k) [
      | inl above ↦
          let h = secondary (k - 64) (omega arith) (omega arith) in
          let e : 64 - (k - 64) ≡ 128 - k = omega arith in
          let f : 64 + (k - 64) ≡ k = omega arith in
          let g : eqb (bit_at v (128 - k)) 1 ≡ set k = sym (ap (λ (i : ℕ). eqb (bit_at v i) 1) e) ∙ h ∙ ap set f in
          grind (arith, nat_tests)
      | inr below ↦
          let h = primary k (omega arith) below in
          let l = low_bits w (64 - k) large (omega arith) in
          grind (arith, nat_tests)
    ]

two_read : (c : BitmapCoding) (set : ℕ → Bool) (m rest : List ℕ) → ((i : ℕ) → get_or m i 0 < 256) → set 65 ≡ false → Two c set m → MapsRead c set (m ++ rest) (length m)
two_read c set m rest fits no_65 two =
    let n = map_size c in
    let p : List ℕ = take n m in
    let q : List ℕ = drop n m in
    let b : List ℕ = m ++ rest in
    let one = word_again c (primary_bits true set) p (bytes_take n m fits) two.primary in
    let other = word_again c (secondary_bits set) q (bytes_drop n m fits) two.secondary in
    let w = one.word in
    let v = other.word in
    let both : length m ≡ n + n = omega (arith, one.size, other.size, length-take n m, length-drop n m) in
    let le : n ≤ length m = omega arith in
    let front : word_in c (take n b) ≡ Some w = ap (word_in c) (take-append-le n m rest le) ∙ one.read in
    let back : word_in c (take n (drop n b)) ≡ Some v = ap (word_in c) (ap (take n) (drop-append-le n m rest le) ∙ take_at q rest n other.size) ∙ other.read in
    let large : top ≤ w = first_large w (one.bits 1 (omega arith) (omega arith)) in
    let small : v < top = first_small v other.small (other.bits 1 (omega arith) (omega arith) ∙ no_65) in
    let long : ltb (length b) n ≡ false = le-ltb (length b) n (omega (arith, length-append m rest)) in
    let longer : ltb (length b) (n + n) ≡ false = le-ltb (length b) (n + n) (omega (arith, length-append m rest)) in
    record {
      primary = w - top;
      secondary = v;
      read = cond-false (ltb (length b) n) more (primary_by c b (word_in c (take n b))) long
          ∙ ap (primary_by c b) front
          ∙ cond-false (ltb w top) (got w 0 n) (cond (ltb (length b) (n + n)) more (secondary_by c (w - top) (word_in c (take n (drop n b))))) (le-ltb w top large)
          ∙ cond-false (ltb (length b) (n + n)) more (secondary_by c (w - top) (word_in c (take n (drop n b)))) longer
          ∙ ap (secondary_by c (w - top)) back
          ∙ cond-true (ltb v top) (got (w - top) v (n + n)) (fault n ThirdBitmap) (lt-ltb v top small)
          ∙ ap (got (w - top) v) (sym both);
      agrees = two_agrees set w v large one.bits other.bits;
    }

pub maps_again : (c : BitmapCoding) (secondary : Bool) (set : ℕ → Bool) (m rest : List ℕ) → ((i : ℕ) → get_or m i 0 < 256) → set 65 ≡ false → Bitmaps c secondary set m → MapsRead c set (m ++ rest) (length m)
maps_again c true set m rest fits no_65 maps = two_read c set m rest fits no_65 maps
maps_again c false set m rest fits no_65 maps = one_read c set m rest fits maps

got_is : (w v n w' v' n' : ℕ) → got w v n ≡ got w' v' n' → (w ≡ w') × (v ≡ v') × (n ≡ n')
got_is w v n w' v' n' e = (cc, cc, cc)

-- what a function that reads gives, where the bytes begin with the bitmaps of a set
is_read_by : (c : BitmapCoding) (set : ℕ → Bool) (b : List ℕ) (size : ℕ) (r : Result BitmapStep BitmapFault) → MapsRead c set b size → ReadsMaps r (maps_at c b) → IsSetRead set size r
is_read_by c set b size (Ok (steps.Got bits used)) read h =
    let same = got_is read.primary read.secondary size h.primary h.secondary used (sym read.read ∙ h.read) in
    (sym same.2, λ k low high. h.numbers k ∙ ap (λ (n : ℕ). in_words n h.secondary k) (sym same.0) ∙ ap (λ (n : ℕ). in_words read.primary n k) (sym same.1) ∙ read.agrees k low high)
is_read_by c set b size (Ok steps.More) read h = let same : got read.primary read.secondary size ≡ more = sym read.read ∙ h in absurd cc
is_read_by c set b size (Err e) read h = let same : got read.primary read.secondary size ≡ fault e.at e.cause = sym read.read ∙ h in absurd cc

pub is_read : (c : BitmapCoding) (b : List ℕ) (r : Result BitmapStep BitmapFault) → ((i : ℕ) → get_or b i 0 < 256) → ReadsMaps r (maps_at c b) → (two : Bool) (set : ℕ → Bool) (front rest : List ℕ) → set 65 ≡ false → Bitmaps c two set front → b ≡ front ++ rest → IsSetRead set (length front) r
is_read c b r fits h two set front rest no_65 maps split =
    let front_fits : (i : ℕ) → get_or front i 0 < 256 = λ i. rw (sym (ap (take (length front)) split ∙ take_at front rest (length front) refl)) (bytes_take (length front) b fits i) in
    is_read_by c set b (length front) r (subst (λ (l : List ℕ). MapsRead c set l (length front)) (sym split) (maps_again c two set front rest front_fits no_65 maps)) h

-- ---- what is read is spelled

abbrev pub BeginsWithMaps : BitmapCoding → List ℕ → ℕ → ℕ → ℕ → Type 0
BeginsWithMaps c b w v used = (used ≤ length b) × ((two : Bool) × Bitmaps c two (in_words w v) (take used b))

more_or : (t : Bool) (o : Maps) (w v n : ℕ) → cond t more o ≡ got w v n → (t ≡ false) × (o ≡ got w v n)
more_or true o w v n e = absurd cc
more_or false o w v n e = (refl, e)

one_first : (w k : ℕ) → w < top → 0 < k → k ≤ 64 → eqb (bit_at w (64 - k)) 1 ≡ primary_bits false (in_words w 0) k
one_first w k small low high =
    elim (cases_eq k 1) [
      | inl e ↦ let s = small_first w small in rw e s
      | inr ne ↦ grind (arith, nat_tests)
    ]

one_none : (w k : ℕ) → 64 < k → k ≤ 128 → in_words w 0 k ≡ false
one_none w k low high = let z = bit_at-zero (128 - k) in grind (arith, nat_tests)

pub two_first : (w v k : ℕ) → w < 2 ^ 64 → top ≤ w → 0 < k → k ≤ 64 → eqb (bit_at w (64 - k)) 1 ≡ primary_bits true (in_words (w - top) v) k
two_first w v k fits large low high =
    elim (cases_eq k 1) [
      | inl e ↦ let s = large_first w fits large in rw e s
      | inr ne ↦ let l = low_bits w (64 - k) large (omega arith) in grind (arith, nat_tests)
    ]

pub two_second : (w v k : ℕ) → 0 < k → k ≤ 64 → eqb (bit_at v (64 - k)) 1 ≡ secondary_bits (in_words w v) k
two_second w v k low high = let e : 128 - (64 + k) ≡ 64 - k = omega arith in grind (arith, nat_tests)

second_or : (t : Bool) (w v n w' v' n' at : ℕ) → cond t (got w v n) (fault at ThirdBitmap) ≡ got w' v' n' → got w v n ≡ got w' v' n'
second_or true w v n w' v' n' at e = e
second_or false w v n w' v' n' at e = absurd cc

found_along : (c : BitmapCoding) (b : List ℕ) (w v n w' v' n' : ℕ) → got w v n ≡ got w' v' n' → BeginsWithMaps c b w v n → BeginsWithMaps c b w' v' n'
found_along c b w v n w' v' n' e found =
    let s = got_is w v n w' v' n' e in
    subst (λ (k : ℕ). BeginsWithMaps c b w' v' k) s.2 (subst (λ (k : ℕ). BeginsWithMaps c b w' k n) s.1 (subst (λ (k : ℕ). BeginsWithMaps c b k v n) s.0 found))

by_second : (c : BitmapCoding) (b : List ℕ) (primary w v n : ℕ) (o : Option ℕ) → word_in c (take (map_size c) (drop (map_size c) b)) ≡ o → ((i : ℕ) → get_or b i 0 < 256) → map_size c + map_size c ≤ length b → word_in c (take (map_size c) b) ≡ Some primary → top ≤ primary
    → secondary_by c (primary - top) o ≡ got w v n → BeginsWithMaps c b w v n
by_second c b primary w v n None is fits room front large e = absurd cc
by_second c b primary w v n (Some secondary) is fits room front large e =
    let size = map_size c in
    let p : List ℕ = take size b in
    let q : List ℕ = take size (drop size b) in
    let one = word_taken c p primary (bytes_take size b fits) (omega (arith, length-take size b)) front in
    let other = word_taken c q secondary (bytes_take size (drop size b) (bytes_drop size b fits)) (omega (arith, length-take size (drop size b), length-drop size b)) is in
    let set = in_words (primary - top) secondary in
    let ahead : take size (take (size + size) b) ≡ p = take-take size (size + size) b (omega arith) in
    let behind : drop size (take (size + size) b) ≡ q = drop-take size size b in
    let found : BeginsWithMaps c b (primary - top) secondary (size + size) = (
      room,
      (
        true,
        record {
          primary = subst (λ (l : List ℕ). BitsIn c (primary_bits true set) l) (sym ahead) (bits_agree c _ _ p (λ k low high. two_first primary secondary k one.small large low high) one.bits);
          secondary = subst (λ (l : List ℕ). BitsIn c (secondary_bits set) l) (sym behind) (bits_agree c _ _ q (λ k low high. two_second (primary - top) secondary k low high) other.bits);
        },
      ),
    ) in
    found_along c b (primary - top) secondary (size + size) w v n (second_or (ltb secondary top) (primary - top) secondary (size + size) w v n size e) found

by_size : (t : Bool) (c : BitmapCoding) (b : List ℕ) (primary w v n : ℕ) → ltb primary top ≡ t → ((i : ℕ) → get_or b i 0 < 256) → map_size c ≤ length b → word_in c (take (map_size c) b) ≡ Some primary
    → cond t (got primary 0 (map_size c)) (cond (ltb (length b) (map_size c + map_size c)) more (secondary_by c (primary - top) (word_in c (take (map_size c) (drop (map_size c) b))))) ≡ got w v n → BeginsWithMaps c b w v n
by_size true c b primary w v n is fits room front e =
    let size = map_size c in
    let p : List ℕ = take size b in
    let one = word_taken c p primary (bytes_take size b fits) (omega (arith, length-take size b)) front in
    let small : primary < top = ltb-true primary top is in
    found_along c b primary 0 size w v n e (
      room,
      (
        false,
        record {
          primary = bits_agree c _ _ p (λ k low high. one_first primary k small low high) one.bits;
          none = one_none primary;
        },
      ),
    )
by_size false c b primary w v n is fits room front e =
    let size = map_size c in
    let a = more_or (ltb (length b) (size + size)) (secondary_by c (primary - top) (word_in c (take size (drop size b)))) w v n e in
    by_second c b primary w v n (word_in c (take size (drop size b))) refl fits (ltb-false (length b) (size + size) a.0) front (ltb-false primary top is) a.1

by_first : (c : BitmapCoding) (b : List ℕ) (w v n : ℕ) (o : Option ℕ) → word_in c (take (map_size c) b) ≡ o → ((i : ℕ) → get_or b i 0 < 256) → map_size c ≤ length b → primary_by c b o ≡ got w v n → BeginsWithMaps c b w v n
by_first c b w v n None is fits room e = absurd cc
by_first c b w v n (Some primary) is fits room e = by_size (ltb primary top) c b primary w v n refl fits room is e

pub maps_taken : (c : BitmapCoding) (b : List ℕ) (w v n : ℕ) → ((i : ℕ) → get_or b i 0 < 256) → maps_at c b ≡ got w v n → BeginsWithMaps c b w v n
maps_taken c b w v n fits e =
    let size = map_size c in
    let a = more_or (ltb (length b) size) (primary_by c b (word_in c (take size b))) w v n e in
    by_first c b w v n (word_in c (take size b)) refl fits (ltb-false (length b) size a.0) a.1

-- what a function that reads has found
pub is_found : (c : BitmapCoding) (b : List ℕ) (r : Result BitmapStep BitmapFault) → ((i : ℕ) → get_or b i 0 < 256) → ReadsMaps r (maps_at c b) → FoundMaps c b r
is_found c b (Ok (steps.Got bits used)) fits h =
    let found = maps_taken c b h.primary h.secondary used fits h.read in
    let same : in_words h.primary h.secondary ≡ contains bits = fun_ext (λ k. sym (h.numbers k)) in
    (found.0, (found.1.0, subst (λ (set : ℕ → Bool). Bitmaps c found.1.0 set (take used b)) same found.1.1))
is_found c b (Ok steps.More) fits h = tt
is_found c b (Err e) fits h = tt

-- ---- the numbers of a set

not_low : (w v n : ℕ) → w < 2 ^ 63 → n < 2 → in_words w v n ≡ true → ⊥
not_low w v n small low here = let z = bit_at_above w 63 (64 - n) small (omega arith) in grind (arith, nat_tests)

not_high : (w v n : ℕ) → 128 < n → in_words w v n ≡ true → ⊥
not_high w v n high here = grind (arith, nat_tests)

not_65 : (w v n : ℕ) → v < 2 ^ 63 → in_words w v n ≡ true → n ≢ 65
not_65 w v n small here is = let z = bit_at_above v 63 (128 - n) small (omega arith) in grind (arith, nat_tests)

-- words without their first bits have numbers of elements alone
pub words_number : (w v : ℕ) → w < 2 ^ 63 → v < 2 ^ 63 → AreElements (in_words w v)
words_number w v primary secondary n here = (
  elim (cases_lt n 2) [
    | inl low ↦ absurd (not_low w v n primary low here)
    | inr le ↦ le
  ],
  elim (cases_lt 128 n) [
    | inl high ↦ absurd (not_high w v n high here)
    | inr le ↦ le
  ],
  not_65 w v n secondary here,
)

-- the numbers of a set
pub set_numbers : (s : Bitmap) → AreElements (contains s)
set_numbers s = words_number s.primary s.secondary s.not_1 s.not_65

-- so does a set that was read
pub read_numbers : (r : Result BitmapStep BitmapFault) (o : Maps) → ReadsMaps r o → IfRead r AreElements
read_numbers (Ok (steps.Got bits used)) o h = λ n here. words_number h.primary h.secondary h.not_1 h.not_65 n (sym (h.numbers n) ∙ here)
read_numbers (Ok steps.More) o h = tt
read_numbers (Err e) o h = tt
