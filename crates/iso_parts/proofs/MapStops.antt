-- Reading says that bytes are missing exactly where they end inside the bitmaps, and gives a fault exactly where one is bad.
use Rattle.std.proofs.Common.{◌≡◌, ℕ, ◌+◌, ◌-◌, ◌≤◌, ◌<◌, Bool, true, false, cond, eqb, ltb, List, [], ◌++◌, length, take, drop, Option, Some, None, Result, Ok, Err, refl, sym, ap, ap₂, subst, ◌∙◌, arith}
use Rattle.std.specs.Prelude.{◌↔◌}
use Rattle.std.specs.Int.{bit_at}
use Rattle.std.proofs.lemmas.Bool.{ltb-true, ltb-false, lt-ltb, le-ltb, cond-true, cond-false}
use Rattle.std.proofs.lemmas.List.{length-append, length-take, length-drop, take_at, drop_at, take-append-drop}
use Rattle.hex.specs.Hex.{IsBytes}
use Rattle.iso_parts.specs.declared.bitmap.BitmapCoding.{BitmapCoding}
use Rattle.iso_parts.specs.declared.bitmap.BitmapCause.{BitmapCause}
use Rattle.iso_parts.specs.declared.bitmap.BitmapCause.TheVariants.{BadHex, ThirdBitmap}
use Rattle.iso_parts.specs.declared.bitmap.BitmapFault.{BitmapFault}
use Rattle.iso_parts.specs.declared.bitmap.BitmapStep.{BitmapStep}
use Rattle.iso_parts.specs.declared.bitmap.BitmapStep.TheVariants as steps
use Rattle.iso_parts.specs.Bitmap.{BitsIn, map_size, in_words, primary_bits, secondary_bits}
use Rattle.iso_parts.specs.BitmapReading.{Maps, got, more, fault, top, word_in, primary_by, secondary_by, maps_at, ReadsMaps}
use Rattle.iso_parts.specs.MapStops.{MapPlace, primary, secondary, AreMapsBefore, IsBadMap, EndsInMaps, AreBadMaps}
use Rattle.iso_parts.proofs.BitmapLaws.{bits_agree, bytes_take, bytes_drop, first_large, large_first, two_first, two_second}
use Rattle.iso_parts.proofs.Words.{word_again, word_taken}

-- ---- one whole bitmap

-- what tells no word is no bitmap,
no_bitmap : (c : BitmapCoding) (p : List ℕ) → IsBytes p → word_in c p ≡ None → (set : ℕ → Bool) → BitsIn c set p → ⊥
no_bitmap c p bytes none set bits = let r = word_again c set p bytes bits in absurd (let other : None ≡ Some r.word = sym none ∙ r.read in cc)

-- and what is no bitmap tells no word
no_word : (c : BitmapCoding) (p : List ℕ) (o : Option ℕ) → word_in c p ≡ o → IsBytes p → length p ≡ map_size c → ((set : ℕ → Bool) → BitsIn c set p → ⊥) → word_in c p ≡ None
no_word c p None is bytes size none = is
no_word c p (Some w) is bytes size none = absurd (none (λ k. eqb (bit_at w (64 - k)) 1) (word_taken c p w bytes size is).bits)

-- a bitmap whose first bit is set tells of a secondary one
tells_secondary : (c : BitmapCoding) (w : ℕ) (p : List ℕ) → IsBytes p → length p ≡ map_size c → word_in c p ≡ Some w → top ≤ w → AreMapsBefore c secondary p
tells_secondary c w p bytes size read large =
    let r = word_taken c p w bytes size read in
    (in_words (w - top) 0, bits_agree c _ _ p (λ k low high. two_first w 0 k r.small large low high) r.bits)

-- a secondary bitmap whose first bit is set tells of a third one
tells_third : (c : BitmapCoding) (v : ℕ) (p : List ℕ) → IsBytes p → length p ≡ map_size c → word_in c p ≡ Some v → top ≤ v → IsBadMap c secondary p ThirdBitmap
tells_third c v p bytes size read large =
    let r = word_taken c p v bytes size read in
    (in_words 0 v, bits_agree c _ _ p (λ k low high. two_second 0 v k low high) r.bits, large_first v r.small large)

-- ---- what reading stops at is so

second_no_more : (c : BitmapCoding) (w : ℕ) (o : Option ℕ) → secondary_by c w o ≡ more → ⊥
second_no_more c w None e = absurd cc
second_no_more c w (Some v) e = third_no_more (ltb v top) w v (map_size c + map_size c) (map_size c) e
  where
    third_no_more : (t : Bool) (w v n at : ℕ) → cond t (got w v n) (fault at ThirdBitmap) ≡ more → ⊥
    third_no_more true w v n at e = absurd cc
    third_no_more false w v n at e = absurd cc

missing_second : (first short : Bool) (w n : ℕ) (o : Maps) → (o ≡ more → ⊥) → cond first (got w 0 n) (cond short more o) ≡ more → (first ≡ false) × (short ≡ true)
missing_second true short w n o whole e = absurd cc
missing_second false true w n o whole e = (refl, refl)
missing_second false false w n o whole e = absurd (whole e)

missing_behind : (c : BitmapCoding) (b : List ℕ) (o : Option ℕ) → word_in c (take (map_size c) b) ≡ o → IsBytes b → map_size c ≤ length b → primary_by c b o ≡ more → EndsInMaps c b
missing_behind c b None is bytes room e = absurd cc
missing_behind c b (Some w) is bytes room e =
    let n = map_size c in
    let p : List ℕ = take n b in
    let by = secondary_by c (w - top) (word_in c (take n (drop n b))) in
    let both = missing_second (ltb w top) (ltb (length b) (n + n)) w n by (second_no_more c (w - top) (word_in c (take n (drop n b)))) e in
    let few = ltb-true (length b) (n + n) both.1 in
    record {
      good = p;
      rest = drop n b;
      bytes = sym (take-append-drop n b);
      next = secondary;
      before = tells_secondary c w p (bytes_take n b bytes) (omega (arith, length-take n b, room)) is (ltb-false w top both.0);
      short = omega (arith, length-drop n b, few, room);
    }

missing_by : (c : BitmapCoding) (b : List ℕ) (t : Bool) → ltb (length b) (map_size c) ≡ t → IsBytes b → cond t more (primary_by c b (word_in c (take (map_size c) b))) ≡ more → EndsInMaps c b
missing_by c b true is bytes e = record { good = []; rest = b; bytes = refl; next = primary; before = refl; short = ltb-true (length b) (map_size c) is }
missing_by c b false is bytes e = missing_behind c b (word_in c (take (map_size c) b)) refl bytes (ltb-false (length b) (map_size c) is) e

ends_in_maps : (c : BitmapCoding) (b : List ℕ) → IsBytes b → maps_at c b ≡ more → EndsInMaps c b
ends_in_maps c b bytes e = missing_by c b (ltb (length b) (map_size c)) refl bytes e

bad_second : (first short : Bool) (w n at : ℕ) (cause : BitmapCause) (o : Maps) → cond first (got w 0 n) (cond short more o) ≡ fault at cause → (first ≡ false) × (short ≡ false) × (o ≡ fault at cause)
bad_second true short w n at cause o e = absurd cc
bad_second false true w n at cause o e = absurd cc
bad_second false false w n at cause o e = (refl, refl, e)

bad_third : (t : Bool) (w v n at size : ℕ) (cause : BitmapCause) → cond t (got w v n) (fault size ThirdBitmap) ≡ fault at cause → (t ≡ false) × (size ≡ at) × (ThirdBitmap ≡ cause)
bad_third true w v n at size cause e = absurd cc
bad_third false w v n at size cause e = (refl, cc, cc)

bad_behind_first : (c : BitmapCoding) (b : List ℕ) (w at : ℕ) (cause : BitmapCause) (o : Option ℕ) → word_in c (take (map_size c) (drop (map_size c) b)) ≡ o → IsBytes b → map_size c + map_size c ≤ length b → secondary_by c w o ≡ fault at cause
    → (map_size c ≡ at) × IsBadMap c secondary (take (map_size c) (drop (map_size c) b)) cause
bad_behind_first c b w at cause None is bytes room e =
    let n = map_size c in
    let q : List ℕ = take n (drop n b) in
    let same : n ≡ at = cc in
    let why : BadHex ≡ cause = cc in
    (same, subst (IsBadMap c secondary q) why (no_bitmap c q (bytes_take n (drop n b) (bytes_drop n b bytes)) is))
bad_behind_first c b w at cause (Some v) is bytes room e =
    let n = map_size c in
    let q : List ℕ = take n (drop n b) in
    let was = bad_third (ltb v top) w v (n + n) at n cause e in
    let size : length q ≡ n = omega (arith, length-take n (drop n b), length-drop n b, room) in
    (was.1, subst (IsBadMap c secondary q) was.2 (tells_third c v q (bytes_take n (drop n b) (bytes_drop n b bytes)) size is (ltb-false v top was.0)))

bad_behind : (c : BitmapCoding) (b : List ℕ) (at : ℕ) (cause : BitmapCause) (o : Option ℕ) → word_in c (take (map_size c) b) ≡ o → IsBytes b → map_size c ≤ length b → primary_by c b o ≡ fault at cause → AreBadMaps c b at cause
bad_behind c b at cause None is bytes room e =
    let n = map_size c in
    let same : 0 ≡ at = cc in
    let why : BadHex ≡ cause = cc in
    record {
      good = [];
      rest = b;
      bytes = refl;
      place = sym same;
      next = primary;
      before = refl;
      whole = room;
      bad = subst (IsBadMap c primary (take n b)) why (no_bitmap c (take n b) (bytes_take n b bytes) is);
    }
bad_behind c b at cause (Some w) is bytes room e =
    let n = map_size c in
    let p : List ℕ = take n b in
    let read = word_in c (take n (drop n b)) in
    let both = bad_second (ltb w top) (ltb (length b) (n + n)) w n at cause (secondary_by c (w - top) read) e in
    let enough = ltb-false (length b) (n + n) both.1 in
    let was = bad_behind_first c b (w - top) at cause read refl bytes enough both.2 in
    let size : length p ≡ n = omega (arith, length-take n b, room) in
    record {
      good = p;
      rest = drop n b;
      bytes = sym (take-append-drop n b);
      place = sym was.0 ∙ sym size;
      next = secondary;
      before = tells_secondary c w p (bytes_take n b bytes) size is (ltb-false w top both.0);
      whole = omega (arith, length-drop n b, enough);
      bad = was.1;
    }

bad_by : (c : BitmapCoding) (b : List ℕ) (at : ℕ) (cause : BitmapCause) (t : Bool) → ltb (length b) (map_size c) ≡ t → IsBytes b → cond t more (primary_by c b (word_in c (take (map_size c) b))) ≡ fault at cause → AreBadMaps c b at cause
bad_by c b at cause true is bytes e = absurd cc
bad_by c b at cause false is bytes e = bad_behind c b at cause (word_in c (take (map_size c) b)) refl bytes (ltb-false (length b) (map_size c) is) e

are_bad_maps : (c : BitmapCoding) (b : List ℕ) (at : ℕ) (cause : BitmapCause) → IsBytes b → maps_at c b ≡ fault at cause → AreBadMaps c b at cause
are_bad_maps c b at cause bytes e = bad_by c b at cause (ltb (length b) (map_size c)) refl bytes e

-- ---- where bytes stop, reading does

front_bytes : (p rest : List ℕ) → IsBytes (p ++ rest) → IsBytes p
front_bytes p rest bytes = subst IsBytes (take_at p rest (length p) refl) (bytes_take (length p) (p ++ rest) bytes)

-- a good primary bitmap that tells of a secondary one
pub record FirstRead (c : BitmapCoding) (p rest : List ℕ) : Type 0 where
  pub word : ℕ
  pub size : length p ≡ map_size c
  pub read : maps_at c (p ++ rest) ≡ cond (ltb (length (p ++ rest)) (map_size c + map_size c)) more (secondary_by c (word - top) (word_in c (take (map_size c) rest)))

first_read : (c : BitmapCoding) (p rest : List ℕ) → IsBytes (p ++ rest) → AreMapsBefore c secondary p → FirstRead c p rest
first_read c p rest bytes before =
    let r = word_again c (primary_bits true before.0) p (front_bytes p rest bytes) before.1 in
    let n = map_size c in
    let w = r.word in
    let b : List ℕ = p ++ rest in
    let large : top ≤ w = first_large w (r.bits 1 (omega arith) (omega arith)) in
    let behind = λ (l : List ℕ). cond (ltb (length b) (n + n)) more (secondary_by c (w - top) (word_in c (take n l))) in
    record {
      word = w;
      size = r.size;
      read = cond-false (ltb (length b) n) more (primary_by c b (word_in c (take n b))) (le-ltb (length b) n (omega (arith, length-append p rest, r.size)))
          ∙ ap (primary_by c b) (ap (word_in c) (take_at p rest n r.size) ∙ r.read)
          ∙ cond-false (ltb w top) (got w 0 n) (behind (drop n b)) (le-ltb w top large)
          ∙ ap behind (drop_at p rest n r.size);
    }

is_missing : (c : BitmapCoding) (next : MapPlace) (p rest : List ℕ) → IsBytes (p ++ rest) → AreMapsBefore c next p → length rest < map_size c → maps_at c (p ++ rest) ≡ more
is_missing c primary p rest bytes before short =
    let n = map_size c in
    subst (λ (l : List ℕ). maps_at c (l ++ rest) ≡ more) (sym before) (cond-true (ltb (length rest) n) more (primary_by c rest (word_in c (take n rest))) (lt-ltb (length rest) n short))
is_missing c secondary p rest bytes before short =
    let n = map_size c in
    let b : List ℕ = p ++ rest in
    let first = first_read c p rest bytes before in
    first.read ∙ cond-true (ltb (length b) (n + n)) more (secondary_by c (first.word - top) (word_in c (take n rest))) (lt-ltb (length b) (n + n) (omega (arith, length-append p rest, first.size, short)))

missing_again : (c : BitmapCoding) (b : List ℕ) → IsBytes b → EndsInMaps c b → maps_at c b ≡ more
missing_again c b bytes h = subst (λ (l : List ℕ). maps_at c l ≡ more) (sym h.bytes) (is_missing c h.next h.good h.rest (subst IsBytes h.bytes bytes) h.before h.short)

back_bytes : (p rest : List ℕ) → IsBytes (p ++ rest) → IsBytes rest
back_bytes p rest bytes = subst IsBytes (drop_at p rest (length p) refl) (bytes_drop (length p) (p ++ rest) bytes)

second_refused : (c : BitmapCoding) (w : ℕ) (q : List ℕ) (cause : BitmapCause) → IsBytes q → length q ≡ map_size c → IsBadMap c secondary q cause → secondary_by c w (word_in c q) ≡ fault (map_size c) cause
second_refused c w q BadHex bytes size bad = ap (secondary_by c w) (no_word c q (word_in c q) refl bytes size bad)
second_refused c w q ThirdBitmap bytes size bad =
    let n = map_size c in
    let r = word_again c (secondary_bits bad.0) q bytes bad.1 in
    let v = r.word in
    let large : top ≤ v = first_large v (r.bits 1 (omega arith) (omega arith) ∙ bad.2) in
    ap (secondary_by c w) r.read ∙ cond-false (ltb v top) (got w v (n + n)) (fault n ThirdBitmap) (le-ltb v top large)

is_refused : (c : BitmapCoding) (next : MapPlace) (p rest : List ℕ) (cause : BitmapCause) → IsBytes (p ++ rest) → AreMapsBefore c next p → map_size c ≤ length rest → IsBadMap c next (take (map_size c) rest) cause → maps_at c (p ++ rest) ≡ fault (length p) cause
is_refused c primary p rest ThirdBitmap bytes before whole bad = absurd bad
is_refused c primary p rest BadHex bytes before whole bad =
    let n = map_size c in
    let q : List ℕ = take n rest in
    let none = no_word c q (word_in c q) refl (bytes_take n rest (back_bytes p rest bytes)) (omega (arith, length-take n rest, whole)) bad in
    subst (λ (l : List ℕ). maps_at c (l ++ rest) ≡ fault (length l) BadHex) (sym before) (
    cond-false (ltb (length rest) n) more (primary_by c rest (word_in c q)) (le-ltb (length rest) n whole) ∙ ap (primary_by c rest) none)
is_refused c secondary p rest cause bytes before whole bad =
    let n = map_size c in
    let b : List ℕ = p ++ rest in
    let q : List ℕ = take n rest in
    let first = first_read c p rest bytes before in
    first.read
    ∙ cond-false (ltb (length b) (n + n)) more (secondary_by c (first.word - top) (word_in c q)) (le-ltb (length b) (n + n) (omega (arith, length-append p rest, first.size, whole)))
    ∙ second_refused c (first.word - top) q cause (bytes_take n rest (back_bytes p rest bytes)) (omega (arith, length-take n rest, whole)) bad
    ∙ ap (λ (at : ℕ). fault at cause) (sym first.size)

refused_again : (c : BitmapCoding) (b : List ℕ) (at : ℕ) (cause : BitmapCause) → IsBytes b → AreBadMaps c b at cause → maps_at c b ≡ fault at cause
refused_again c b at cause bytes h =
    subst (λ (l : List ℕ). maps_at c l ≡ fault at cause) (sym h.bytes) (is_refused c h.next h.good h.rest cause (subst IsBytes h.bytes bytes) h.before h.whole h.bad ∙ ap (λ (k : ℕ). fault k cause) (sym h.place))

-- ---- what functions answer

reads_more : (r : Result BitmapStep BitmapFault) → ReadsMaps r more → r ≡ Ok steps.More
reads_more (Ok (steps.Got bits used)) h = absurd (let other : more ≡ got h.primary h.secondary used = h.read in cc)
reads_more (Ok steps.More) h = refl
reads_more (Err e) h = absurd (let other : more ≡ fault e.at e.cause = h in cc)

reads_fault : (r : Result BitmapStep BitmapFault) (e : BitmapFault) → ReadsMaps r (fault e.at e.cause) → r ≡ Err e
reads_fault (Ok (steps.Got bits used)) e h = absurd (let other : fault e.at e.cause ≡ got h.primary h.secondary used = h.read in cc)
reads_fault (Ok steps.More) e h = absurd (let other : fault e.at e.cause ≡ more = h in cc)
reads_fault (Err d) e h =
    let other : fault e.at e.cause ≡ fault d.at d.cause = h in
    let place : d.at ≡ e.at = cc in
    let why : d.cause ≡ e.cause = cc in
    ap₂ (λ (at : ℕ) (cause : BitmapCause). Err (record { at = at; cause = cause })) place why

pub read_ends : (c : BitmapCoding) (b : List ℕ) (r : Result BitmapStep BitmapFault) → IsBytes b → ReadsMaps r (maps_at c b) → (r ≡ Ok steps.More) ↔ EndsInMaps c b
read_ends c b r bytes h = (
  λ is. ends_in_maps c b bytes (subst (λ (a : Result BitmapStep BitmapFault). ReadsMaps a (maps_at c b)) is h),
  λ ends. reads_more r (subst (ReadsMaps r) (missing_again c b bytes ends) h),
)

pub read_stops : (c : BitmapCoding) (b : List ℕ) (r : Result BitmapStep BitmapFault) → IsBytes b → ReadsMaps r (maps_at c b) → (e : BitmapFault) → (r ≡ Err e) ↔ AreBadMaps c b e.at e.cause
read_stops c b r bytes h e = (
  λ is. are_bad_maps c b e.at e.cause bytes (subst (λ (a : Result BitmapStep BitmapFault). ReadsMaps a (maps_at c b)) is h),
  λ bad. reads_fault r e (subst (ReadsMaps r) (refused_again c b e.at e.cause bytes bad) h),
)
