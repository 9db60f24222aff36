-- Bitmaps that are read as words are those that the bytes spell, and those that are spelled are read.
use Rattle.std.proofs.Common.{◌≡◌, ℕ, ◌+◌, ◌-◌, ◌/◌, ◌%◌, ◌^◌, ◌<◌, ◌≤◌, Bool, true, false, cond, eqb, ltb, is_some, List, ◌++◌, length, take, drop, Option, Some, None, Result, Ok, refl, sym, ap, subst, ◌∙◌, append_assoc, arith, inl, inr}
use Rattle.std.specs.Int.{bit_at}
use Rattle.std.proofs.lemmas.Bool.{cases_eq, cases_lt, ltb-false, ltb-true, le-ltb, lt-ltb, cond-true, cond-false}
use Rattle.std.proofs.lemmas.Bool.Decides.{nat_tests}
use Rattle.std.proofs.lemmas.Nat.Bits.{bit_at-zero}
use Rattle.std.proofs.lemmas.List.{take_at, length-append, length-take, length-drop, take-append-drop, drop-append-le, take-take, drop-take}
use Rattle.iso_parts.specs.declared.bitmap.BitmapCoding.{BitmapCoding}
use Rattle.iso_parts.specs.declared.bitmap.BitmapCoding.TheVariants.{Raw, Hex}
use Rattle.iso_parts.specs.Bitmap.{BitsIn, map_size, in_words, primary_bits, secondary_bits, One, Two, Bitmaps}
use Rattle.iso_parts.specs.BitmapReading.{top, word_in}
use Rattle.iso_parts.specs.MapLaws.{MapLaws, has_bit}
use Rattle.iso_wire.specs.declared.fault.UnpackFault.{UnpackFault}
use Rattle.iso_wire.specs.declared.fault.UnpackCause.TheVariants.{Short, ThirdBitmap}
use Rattle.iso_table.specs.Layout.{Layout, row_at}
use Rattle.iso_parts.specs.Numbers.{numbers_in}
use Rattle.iso_wire.specs.Numbers.{unknown}
use Rattle.iso_wire.specs.Reading.{◌>>=◌, halt, word_by, word_at, known_by, primary_at, secondary_known, secondary_at, words_by, words_at}
use Rattle.iso_wire.specs.Spelling.{AreBytes}
use Rattle.iso_wire.proofs.Bytes.{bytes_take, bytes_drop}
use Rattle.iso_wire.proofs.NumberLaws.{all_known}
use Rattle.iso_wire.proofs.ElementLaws.{bind_ok, ok_is}

-- a word has the bits of a set
abbrev HasBits : ℕ → (ℕ → Bool) → Type 0
HasBits w set = (k : ℕ) → 0 < k → k ≤ 64 → has_bit w k ≡ set k

-- ---- a word's first bit

pub small_first : (w : ℕ) → w < top → eqb (bit_at w 63) 1 ≡ false
small_first w lt = let e : w / 2 ^ 63 % 2 ≡ 0 = omega arith in ap (λ (n : ℕ). eqb n 1) e

pub large_first : (w : ℕ) → w < 2 ^ 64 → top ≤ w → eqb (bit_at w 63) 1 ≡ true
large_first w fits le = let e : w / 2 ^ 63 % 2 ≡ 1 = omega arith in ap (λ (n : ℕ). eqb n 1) e

pub first_small : (w : ℕ) → w < 2 ^ 64 → eqb (bit_at w 63) 1 ≡ false → w < top
first_small w fits h =
    elim (cases_lt w top) [
      | inl lt ↦ lt
      | inr le ↦ absurd (let f : true ≡ false = sym (large_first w fits le) ∙ h in cc)
    ]

pub first_large : (w : ℕ) → eqb (bit_at w 63) 1 ≡ true → top ≤ w
first_large w h =
    elim (cases_lt w top) [
      | inl lt ↦ absurd (let f : true ≡ false = sym h ∙ small_first w lt in cc)
      | inr le ↦ le
    ]

-- a bitmap of one set is a bitmap of another with the same numbers
pub bits_agree : (c : BitmapCoding) (set other : ℕ → Bool) (b : List ℕ) → ((k : ℕ) → 0 < k → k ≤ 64 → set k ≡ other k) → BitsIn c set b → BitsIn c other b
bits_agree Raw set other b agrees bits = record { eight = bits.eight; bit = λ k low high. bits.bit k low high ∙ agrees k low high }
bits_agree Hex set other b agrees bits = (bits.0, bits.1, record { eight = bits.2.eight; bit = λ k low high. bits.2.bit k low high ∙ agrees k low high })

-- ---- words and sets

one_agrees : (set : ℕ → Bool) (w : ℕ) → HasBits w (primary_bits false set) → ((k : ℕ) → 64 < k → k ≤ 128 → set k ≡ false) → (k : ℕ) → 2 ≤ k → k ≤ 128 → in_words w 0 k ≡ set k
one_agrees set w bits none k low high =
    elim (cases_lt 64 k) [
      | inl above ↦ let z = bit_at-zero (128 - k) in let n = none k above high in grind (arith, nat_tests)
      | inr below ↦ let h = bits k (omega arith) below in grind (arith, nat_tests)
    ]

second_agrees : (set : ℕ → Bool) (v k : ℕ) → HasBits v (secondary_bits set) → 64 < k → k ≤ 128 → eqb (bit_at v (128 - k)) 1 ≡ set k
second_agrees set v k bits above high =
    let h = bits (k - 64) (omega arith) (omega arith) in
    let e : 64 - (k - 64) ≡ 128 - k = omega arith in
    let f : 64 + (k - 64) ≡ k = omega arith in
    sym (ap (λ (i : ℕ). eqb (bit_at v i) 1) e) ∙ h ∙ ap set f

two_agrees : (set : ℕ → Bool) (w v : ℕ) → HasBits w (primary_bits true set) → HasBits v (secondary_bits set) → (k : ℕ) → 2 ≤ k → k ≤ 128 → in_words w v k ≡ set k
two_agrees set w v primary secondary k low high =
    elim (cases_lt 64 k) [
      | inl above ↦ let g = second_agrees set v k secondary above high in grind (arith, nat_tests)
      | inr below ↦ let h = primary k (omega arith) below in grind (arith, nat_tests)
    ]

primary_has : (s : Bool) (set : ℕ → Bool) (w : ℕ) → HasBits w (primary_bits s set) → (k : ℕ) → 2 ≤ k → k ≤ 128 → in_words w 0 k ≡ true → set k ≡ true
primary_has s set w bits k low high here =
    elim (cases_lt 64 k) [
      | inl above ↦ let z = bit_at-zero (128 - k) in grind (arith, nat_tests)
      | inr below ↦ let h = bits k (omega arith) below in grind (arith, nat_tests)
    ]

secondary_has : (set : ℕ → Bool) (v : ℕ) → HasBits v (secondary_bits set) → (k : ℕ) → 2 ≤ k → k ≤ 128 → in_words 0 v k ≡ true → set k ≡ true
secondary_has set v bits k low high here =
    elim (cases_lt 64 k) [
      | inl above ↦ let g = second_agrees set v k bits above high in grind (arith, nat_tests)
      | inr below ↦ let z = bit_at-zero (64 - k) in grind (arith, nat_tests)
    ]

-- ---- what is spelled is read

pub record WordsRead (t : Layout) (set : ℕ → Bool) (at : ℕ) (b : List ℕ) (size : ℕ) : Type 0 where
  pub primary : ℕ
  pub secondary : ℕ
  pub read : words_at t at b ≡ Ok (primary, secondary, size)
  pub agrees : (k : ℕ) → 2 ≤ k → k ≤ 128 → in_words primary secondary k ≡ set k

-- each number of the set has a row
abbrev pub AreKnown : Layout → (ℕ → Bool) → Type 0
AreKnown t set = (k : ℕ) → set k ≡ true → is_some (row_at t.rows k) ≡ true

word_read : (c : BitmapCoding) (element at w : ℕ) (p rest : List ℕ) → length p ≡ map_size c → word_in c p ≡ Some w → word_at c element at (p ++ rest) ≡ Ok w
word_read c element at w p rest size read =
    let n = map_size c in
    let b : List ℕ = p ++ rest in
    let long : ltb (length b) n ≡ false = le-ltb (length b) n (omega (arith, length-append p rest)) in
    cond-false (ltb (length b) n) (halt element at Short) (word_by element at (word_in c (take n b))) long
    ∙ ap (λ (l : List ℕ). word_by element at (word_in c l)) (take_at p rest n size)
    ∙ ap (word_by element at) read

primary_read : (t : Layout) (s : Bool) (set : ℕ → Bool) (at w : ℕ) (p rest : List ℕ) → AreKnown t set → HasBits w (primary_bits s set) → length p ≡ map_size t.bitmap → word_in t.bitmap p ≡ Some w → primary_at t at (p ++ rest) ≡ Ok w
primary_read t s set at w p rest known bits size read =
    ap (λ r. r >>= λ w. known_by 0 at w (unknown t.rows (numbers_in w 0))) (word_read t.bitmap 0 at w p rest size read)
    ∙ ap (known_by 0 at w) (all_known t.rows (in_words w 0) 127 2 (λ k low high here. known k (primary_has s set w bits k low (omega arith) here)))

secondary_read : (t : Layout) (set : ℕ → Bool) (at v : ℕ) (p rest : List ℕ) → AreKnown t set → HasBits v (secondary_bits set) → v < top → length p ≡ map_size t.bitmap → word_in t.bitmap p ≡ Some v → secondary_at t at (p ++ rest) ≡ Ok v
secondary_read t set at v p rest known bits small size read =
    ap (λ r. r >>= secondary_known t at) (word_read t.bitmap 1 at v p rest size read)
    ∙ cond-true (ltb v top) (known_by 1 at v (unknown t.rows (numbers_in 0 v))) (halt 1 at ThirdBitmap) (lt-ltb v top small)
    ∙ ap (known_by 1 at v) (all_known t.rows (in_words 0 v) 127 2 (λ k low high here. known k (secondary_has set v bits k low (omega arith) here)))

abbrev words : ℕ → ℕ → ℕ → Result (ℕ × ℕ × ℕ) UnpackFault
words w v size = Ok (w, v, size)

module _ (laws : MapLaws) where
  one_read : (t : Layout) (set : ℕ → Bool) (at : ℕ) (m rest : List ℕ) → AreBytes m → AreKnown t set → One t.bitmap set m → WordsRead t set at (m ++ rest) (length m)
  one_read t set at m rest fits known one =
      let r = laws.again t.bitmap (primary_bits false set) m fits one.primary in
      let w = r.word in
      let n = map_size t.bitmap in
      let b : List ℕ = m ++ rest in
      let small : w < top = first_small w r.small (r.bits 1 (omega arith) (omega arith)) in
      record {
        primary = w;
        secondary = 0;
        read = ap (λ r. r >>= words_by t at b) (primary_read t false set at w m rest known r.bits r.size r.read)
            ∙ cond-true (ltb w top) (words w 0 n) (secondary_at t (at + n) (drop n b) >>= λ secondary. words w secondary (n + n)) (lt-ltb w top small)
            ∙ ap (words w 0) (sym r.size);
        agrees = one_agrees set w r.bits one.none;
      }

  two_read : (t : Layout) (set : ℕ → Bool) (at : ℕ) (m rest : List ℕ) → AreBytes m → set 65 ≡ false → AreKnown t set → Two t.bitmap set m → WordsRead t set at (m ++ rest) (length m)
  two_read t set at m rest fits no_65 known two =
      let c = t.bitmap in
      let n = map_size c in
      let p : List ℕ = take n m in
      let q : List ℕ = drop n m in
      let b : List ℕ = m ++ rest in
      let one = laws.again c (primary_bits true set) p (bytes_take n m fits) two.primary in
      let other = laws.again c (secondary_bits set) q (bytes_drop n m fits) two.secondary in
      let w = one.word in
      let v = other.word in
      let both : length m ≡ n + n = omega (arith, one.size, other.size, length-take n m, length-drop n m) in
      let le : n ≤ length m = omega arith in
      let large : top ≤ w = first_large w (one.bits 1 (omega arith) (omega arith)) in
      let small : v < top = first_small v other.small (other.bits 1 (omega arith) (omega arith) ∙ no_65) in
      let behind : drop n b ≡ q ++ rest = drop-append-le n m rest le in
      let split : b ≡ p ++ (q ++ rest) = ap (λ (l : List ℕ). l ++ rest) (sym (take-append-drop n m)) ∙ append_assoc p q rest in
      let follows = λ (secondary : ℕ). words w secondary (n + n) in
      record {
        primary = w;
        secondary = v;
        read = ap (λ r. r >>= words_by t at b) (ap (primary_at t at) split ∙ primary_read t true set at w p (q ++ rest) known one.bits one.size one.read)
            ∙ cond-false (ltb w top) (words w 0 n) (secondary_at t (at + n) (drop n b) >>= follows) (le-ltb w top large)
            ∙ ap (λ (l : List ℕ). secondary_at t (at + n) l >>= follows) behind
            ∙ ap (λ r. r >>= follows) (secondary_read t set (at + n) v q rest known other.bits small other.size other.read)
            ∙ ap (words w v) (sym both);
        agrees = two_agrees set w v one.bits other.bits;
      }

  pub words_again : (t : Layout) (secondary : Bool) (set : ℕ → Bool) (at : ℕ) (m rest : List ℕ) → AreBytes m → set 65 ≡ false → AreKnown t set → Bitmaps t.bitmap secondary set m → WordsRead t set at (m ++ rest) (length m)
  words_again t true set at m rest fits no_65 known maps = two_read t set at m rest fits no_65 known maps
  words_again t false set at m rest fits no_65 known maps = one_read t set at m rest fits known maps

-- ---- what is read is spelled

one_first : (w k : ℕ) → w < top → 0 < k → k ≤ 64 → eqb (bit_at w (64 - k)) 1 ≡ primary_bits false (in_words w 0) k
one_first w k small low high =
    elim (cases_eq k 1) [
      | inl e ↦ let s = small_first w small in rw e s
      | inr ne ↦ grind (arith, nat_tests)
    ]

pub one_none : (w k : ℕ) → 64 < k → k ≤ 128 → in_words w 0 k ≡ false
one_none w k low high = let z = bit_at-zero (128 - k) in grind (arith, nat_tests)

pub two_first : (w v k : ℕ) → w < 2 ^ 64 → top ≤ w → 0 < k → k ≤ 64 → eqb (bit_at w (64 - k)) 1 ≡ primary_bits true (in_words w v) k
two_first w v k fits large low high =
    elim (cases_eq k 1) [
      | inl e ↦ let s = large_first w fits large in rw e s
      | inr ne ↦ grind (arith, nat_tests)
    ]

two_second : (w v k : ℕ) → 0 < k → k ≤ 64 → eqb (bit_at v (64 - k)) 1 ≡ secondary_bits (in_words w v) k
two_second w v k low high = let e : 128 - (64 + k) ≡ 64 - k = omega arith in grind (arith, nat_tests)

-- a whole bitmap was read
record WordTaken (c : BitmapCoding) (b : List ℕ) (w : ℕ) : Type 0 where
  pub room : map_size c ≤ length b
  pub size : length (take (map_size c) b) ≡ map_size c
  pub small : w < 2 ^ 64
  pub bits : BitsIn c (has_bit w) (take (map_size c) b)

pub short_or : {A : Type 0} (t : Bool) (element at : ℕ) (r : Result A UnpackFault) (x : A) → cond t (halt element at Short) r ≡ Ok x → (t ≡ false) × (r ≡ Ok x)
short_or true element at r x e = absurd cc
short_or false element at r x e = (refl, e)

pub word_or : (element at : ℕ) (o : Option ℕ) (w : ℕ) → word_by element at o ≡ Ok w → o ≡ Some w
word_or element at None w e = absurd cc
word_or element at (Some v) w e = ap Some (ok_is v w e)

known_or : (element at w : ℕ) (o : Option ℕ) (v : ℕ) → known_by element at w o ≡ Ok v → w ≡ v
known_or element at w None v e = ok_is w v e
known_or element at w (Some n) v e = absurd cc

second_or : (t : Bool) (at w : ℕ) (o : Option ℕ) (v : ℕ) → cond t (known_by 1 at w o) (halt 1 at ThirdBitmap) ≡ Ok v → (t ≡ true) × (w ≡ v)
second_or true at w o v e = (refl, known_or 1 at w o v e)
second_or false at w o v e = absurd cc

record SecondTaken (c : BitmapCoding) (b : List ℕ) (w : ℕ) : Type 0 where
  pub word : WordTaken c b w
  pub low : w < top

pub record WordsTaken (t : Layout) (b : List ℕ) (x : ℕ × ℕ × ℕ) : Type 0 where
  pub room : x.2 ≤ length b
  pub two : Bool
  pub maps : Bitmaps t.bitmap two (in_words x.0 x.1) (take x.2 b)
  pub no_65 : in_words x.0 x.1 65 ≡ false

module _ (laws : MapLaws) where
  taken_word : (c : BitmapCoding) (element at : ℕ) (b : List ℕ) (w : ℕ) → AreBytes b → word_at c element at b ≡ Ok w → WordTaken c b w
  taken_word c element at b w fits e =
      let n = map_size c in
      let a = short_or (ltb (length b) n) element at (word_by element at (word_in c (take n b))) w e in
      let room : n ≤ length b = ltb-false (length b) n a.0 in
      let size : length (take n b) ≡ n = omega (arith, length-take n b) in
      let taken = laws.taken c (take n b) w (bytes_take n b fits) size (word_or element at (word_in c (take n b)) w a.1) in
      record { room = room; size = size; small = taken.0; bits = taken.1 }

  taken_primary : (t : Layout) (at : ℕ) (b : List ℕ) (w : ℕ) → AreBytes b → primary_at t at b ≡ Ok w → WordTaken t.bitmap b w
  taken_primary t at b w fits e =
      let one = bind_ok (word_at t.bitmap 0 at b) (λ w. known_by 0 at w (unknown t.rows (numbers_in w 0))) w e in
      subst (WordTaken t.bitmap b) (known_or 0 at one.0 (unknown t.rows (numbers_in one.0 0)) w one.2) (taken_word t.bitmap 0 at b one.0 fits one.1)

  taken_secondary : (t : Layout) (at : ℕ) (b : List ℕ) (w : ℕ) → AreBytes b → secondary_at t at b ≡ Ok w → SecondTaken t.bitmap b w
  taken_secondary t at b w fits e =
      let one = bind_ok (word_at t.bitmap 1 at b) (secondary_known t at) w e in
      let s = second_or (ltb one.0 top) at one.0 (unknown t.rows (numbers_in 0 one.0)) w one.2 in
      subst (SecondTaken t.bitmap b) s.1 (record { word = taken_word t.bitmap 1 at b one.0 fits one.1; low = ltb-true one.0 top s.0 })

  by_size : (is : Bool) (t : Layout) (at : ℕ) (b : List ℕ) (w : ℕ) (x : ℕ × ℕ × ℕ) → ltb w top ≡ is → AreBytes b → WordTaken t.bitmap b w
      → cond is (words w 0 (map_size t.bitmap)) (secondary_at t (at + map_size t.bitmap) (drop (map_size t.bitmap) b) >>= λ v. words w v (map_size t.bitmap + map_size t.bitmap)) ≡ Ok x → WordsTaken t b x
  by_size true t at b w x is fits one e =
      let n = map_size t.bitmap in
      let small : w < top = ltb-true w top is in
      subst (WordsTaken t b) (ok_is (w, 0, n) x e) (record {
        room = one.room;
        two = false;
        maps = record { primary = bits_agree t.bitmap _ _ (take n b) (λ k low high. one_first w k small low high) one.bits; none = one_none w };
        no_65 = one_none w 65 (omega arith) (omega arith);
      })
  by_size false t at b w x is fits one e =
      let c = t.bitmap in
      let n = map_size c in
      let large : top ≤ w = ltb-false w top is in
      let two = bind_ok (secondary_at t (at + n) (drop n b)) (λ v. words w v (n + n)) x e in
      let v : ℕ = two.0 in
      let other = taken_secondary t (at + n) (drop n b) v (bytes_drop n b fits) two.1 in
      let ahead : take n (take (n + n) b) ≡ take n b = take-take n (n + n) b (omega arith) in
      let behind : drop n (take (n + n) b) ≡ take n (drop n b) = drop-take n n b in
      subst (WordsTaken t b) (ok_is (w, v, n + n) x two.2) (record {
        room = omega (arith, one.room, other.word.room, length-drop n b);
        two = true;
        maps = record {
          primary = subst (λ (l : List ℕ). BitsIn c (primary_bits true (in_words w v)) l) (sym ahead) (bits_agree c _ _ (take n b) (λ k low high. two_first w v k one.small large low high) one.bits);
          secondary = subst (λ (l : List ℕ). BitsIn c (secondary_bits (in_words w v)) l) (sym behind) (bits_agree c _ _ (take n (drop n b)) (λ k low high. two_second w v k low high) other.word.bits);
        };
        no_65 = small_first v other.low;
      })

  pub words_taken : (t : Layout) (at : ℕ) (b : List ℕ) (x : ℕ × ℕ × ℕ) → AreBytes b → words_at t at b ≡ Ok x → WordsTaken t b x
  words_taken t at b x fits e =
      let one = bind_ok (primary_at t at b) (words_by t at b) x e in
      by_size (ltb one.0 top) t at b one.0 x refl fits (taken_primary t at b one.0 fits one.1) one.2
