-- A bitmap that isn't whole or is bad stops reading, and good ones are read.
use Rattle.std.proofs.Common.{◌≡◌, ℕ, ◌+◌, ◌-◌, ◌≤◌, ◌<◌, ◌^◌, Bool, true, false, ◌&&◌, cond, leb, ltb, is_some, List, ◌++◌, length, take, drop, None, Result, Ok, refl, sym, ap, subst, ◌∙◌, arith, inl, inr}
use Rattle.std.proofs.lemmas.Bool.{cases_eq, cases_lt, and_parts, ltb-false, lt-ltb, le-ltb, cond-true, cond-false, leb-true}
use Rattle.std.proofs.lemmas.Bool.Decides.{nat_tests}
use Rattle.std.proofs.lemmas.List.{take_at, length-append}
use Rattle.iso_parts.specs.Bitmap.{map_size, in_words, primary_bits, secondary_bits}
use Rattle.iso_parts.specs.BitmapReading.{top, word_in}
use Rattle.iso_parts.specs.MapLaws.{MapLaws, has_bit}
use Rattle.iso_table.specs.Layout.{Layout, row_at}
use Rattle.iso_wire.specs.declared.fault.UnpackFault.{UnpackFault}
use Rattle.iso_wire.specs.declared.fault.UnpackCause.{UnpackCause}
use Rattle.iso_wire.specs.declared.fault.UnpackCause.TheVariants as causes
use Rattle.iso_parts.specs.Numbers.{numbers_in}
use Rattle.iso_wire.specs.Numbers.{unknown}
use Rattle.iso_wire.specs.Reading.{◌>>=◌, halt, word_by, word_at, known_by, primary_at, secondary_known, secondary_at, words_by, words_at}
use Rattle.iso_wire.specs.Spelling.{AreBytes}
use Rattle.iso_wire.specs.Stops.{primary, secondary, HaveRows, IsPrimaryOfTwo, AreGoodMaps, Halts}
use Rattle.iso_wire.proofs.Bytes.{bytes_take}
use Rattle.iso_wire.proofs.ElementLaws.{bind_ok, ok_is}
use Rattle.iso_wire.proofs.Messages.{maps_agree}
use Rattle.iso_wire.proofs.StopsMaps.{Agrees, high_bits, in_first, primary_known, secondary_numbers_known, primary_unknown_again, primary_all_known, secondary_unknown_again, primary_known_by, word_is, word_short, word_bad, known_ok, second_ok, none_by, second_bits, word_of}
use Rattle.iso_wire.proofs.StopsNumbers.{all_have_rows}
use Rattle.iso_wire.proofs.WordLaws.{WordsRead, large_first, first_small, first_large, bits_agree, short_or, word_or, words_again}

abbrev words : ℕ → ℕ → ℕ → Result (ℕ × ℕ × ℕ) UnpackFault
words w v size = Ok (w, v, size)

-- ---- the sets of words

first_is : (set : ℕ → Bool) (k : ℕ) → 2 ≤ k → primary_bits true set k ≡ set k
first_is set k from = grind (arith, nat_tests)

first_of_word : (w k : ℕ) → w < 2 ^ 64 → top ≤ w → has_bit w k ≡ primary_bits true (has_bit w) k
first_of_word w k fits large =
    elim (cases_eq k 1) [
      | inl same ↦ let one : has_bit w 1 ≡ true = large_first w fits large in rw same one
      | inr other ↦ grind (arith, nat_tests)
    ]

-- a secondary bitmap's word has the bits of the set
agrees_above : (set : ℕ → Bool) (v : ℕ) → ((k : ℕ) → 0 < k → k ≤ 64 → has_bit v k ≡ secondary_bits set k) → Agrees (high_bits v) set 65 129
agrees_above set v bits k from to = bits (k - 64) (omega arith) (omega arith) ∙ ap set (omega arith)

-- the numbers of the set that are those of elements
abbrev of_elements : (ℕ → Bool) → ℕ → Bool
of_elements set k = set k && (leb 2 k && leb k 128)

within_elements : (set : ℕ → Bool) (k : ℕ) → 2 ≤ k → k ≤ 128 → of_elements set k ≡ set k
within_elements set k from to = grind (arith, nat_tests)

are_known : (t : Layout) (set : ℕ → Bool) → HaveRows t set 2 129 → (k : ℕ) → of_elements set k ≡ true → is_some (row_at t.rows k) ≡ true
are_known t set rows k here =
    let one = and_parts (set k) (leb 2 k && leb k 128) here in
    let two = and_parts (leb 2 k) (leb k 128) one.1 in
    let high = leb-true k 128 two.1 in
    rows k (leb-true 2 k two.0) (omega arith) one.0

-- ---- the bitmaps

module _ (laws : MapLaws) where
  -- where the primary bitmap isn't whole or is bad, reading stops there
  pub primary_is_halted : (t : Layout) (at : ℕ) (b : List ℕ) (cause : UnpackCause) → AreBytes b → Halts t primary b cause → primary_at t at b ≡ halt 0 at cause
  primary_is_halted t at b causes.Short bytes h = ap (λ r. r >>= primary_known_by t at) (word_short t.bitmap 0 at b h)
  primary_is_halted t at b causes.BadHex bytes h =
      let n = map_size t.bitmap in
      ap (λ r. r >>= primary_known_by t at) (word_bad t.bitmap 0 at b h.0 (none_by laws (word_in t.bitmap (take n b)) t.bitmap b bytes h.0 (λ w bits. h.1 (has_bit w) bits) refl))
  primary_is_halted t at b (causes.UnknownElement n) bytes h =
      let size = map_size t.bitmap in
      let r = laws.again t.bitmap h.1.0 (take size b) (bytes_take size b bytes) h.1.1 in
      ap (λ r. r >>= primary_known_by t at) (word_is t.bitmap 0 at r.word b h.0 r.read)
      ∙ ap (known_by 0 at r.word) (primary_unknown_again t h.1.0 r.word n (λ k from to. r.bits k (omega arith) (omega arith)) h.1.2)
  primary_is_halted t at b causes.BadMti bytes h = absurd h.1
  primary_is_halted t at b causes.WrongVersion bytes h = absurd h.1
  primary_is_halted t at b causes.ThirdBitmap bytes h = absurd h.1
  primary_is_halted t at b (causes.Field f) bytes h = absurd h.1
  primary_is_halted t at b causes.Memory bytes h = absurd h.1

  -- and so at the secondary one
  pub secondary_is_halted : (t : Layout) (at : ℕ) (b : List ℕ) (cause : UnpackCause) → AreBytes b → Halts t secondary b cause → secondary_at t at b ≡ halt 1 at cause
  secondary_is_halted t at b causes.Short bytes h = ap (λ r. r >>= secondary_known t at) (word_short t.bitmap 1 at b h)
  secondary_is_halted t at b causes.BadHex bytes h =
      let n = map_size t.bitmap in
      let p : List ℕ = take n b in
      ap (λ r. r >>= secondary_known t at) (word_bad t.bitmap 1 at b h.0 (none_by laws (word_in t.bitmap p) t.bitmap b bytes h.0 (λ w bits. h.1 (high_bits w) (second_bits laws t.bitmap w p bits)) refl))
  secondary_is_halted t at b causes.ThirdBitmap bytes h =
      let size = map_size t.bitmap in
      let r = laws.again t.bitmap (secondary_bits h.1.0) (take size b) (bytes_take size b bytes) h.1.1 in
      let large : top ≤ r.word = first_large r.word (r.bits 1 (omega arith) (omega arith) ∙ h.1.2) in
      ap (λ r. r >>= secondary_known t at) (word_is t.bitmap 1 at r.word b h.0 r.read)
      ∙ cond-false (ltb r.word top) (known_by 1 at r.word (unknown t.rows (numbers_in 0 r.word))) (halt 1 at causes.ThirdBitmap) (le-ltb r.word top large)
  secondary_is_halted t at b (causes.UnknownElement n) bytes h =
      let size = map_size t.bitmap in
      let r = laws.again t.bitmap (secondary_bits h.1.0) (take size b) (bytes_take size b bytes) h.1.1 in
      let small : r.word < top = first_small r.word r.small (r.bits 1 (omega arith) (omega arith) ∙ h.1.2) in
      ap (λ r. r >>= secondary_known t at) (word_is t.bitmap 1 at r.word b h.0 r.read)
      ∙ cond-true (ltb r.word top) (known_by 1 at r.word (unknown t.rows (numbers_in 0 r.word))) (halt 1 at causes.ThirdBitmap) (lt-ltb r.word top small)
      ∙ ap (known_by 1 at r.word) (secondary_unknown_again t h.1.0 r.word n (agrees_above h.1.0 r.word r.bits) h.1.2 h.1.3)
  secondary_is_halted t at b causes.BadMti bytes h = absurd h.1
  secondary_is_halted t at b causes.WrongVersion bytes h = absurd h.1
  secondary_is_halted t at b (causes.Field f) bytes h = absurd h.1
  secondary_is_halted t at b causes.Memory bytes h = absurd h.1

  -- ---- good bitmaps

  pub record FirstRead (t : Layout) (p : List ℕ) : Type 0 where
    pub word : ℕ
    pub large : top ≤ word
    pub size : length p ≡ map_size t.bitmap
    pub read : (at : ℕ) (rest : List ℕ) → primary_at t at (p ++ rest) ≡ Ok word

  -- a good primary bitmap of two is read
  pub first_of_two_read : (t : Layout) (p : List ℕ) → AreBytes p → IsPrimaryOfTwo t p → FirstRead t p
  first_of_two_read t p bytes first =
      let r = laws.again t.bitmap (primary_bits true first.0) p bytes first.1 in
      let agrees : Agrees (has_bit r.word) first.0 2 65 = λ k from to. r.bits k (omega arith) (omega arith) ∙ first_is first.0 k from in
      record {
        word = r.word;
        large = first_large r.word (r.bits 1 (omega arith) (omega arith));
        size = r.size;
        read = λ at rest.
            let whole : map_size t.bitmap ≤ length (p ++ rest) = omega (arith, length-append p rest, r.size) in
            ap (λ r. r >>= primary_known_by t at) (word_is t.bitmap 0 at r.word (p ++ rest) whole (ap (word_in t.bitmap) (take_at p rest (map_size t.bitmap) r.size) ∙ r.read))
            ∙ ap (known_by 0 at r.word) (primary_all_known t first.0 r.word agrees first.2);
      }

  -- good bitmaps are read
  pub good_maps_read : (t : Layout) (set : ℕ → Bool) (at : ℕ) (p rest : List ℕ) → AreBytes p → AreGoodMaps t set p → WordsRead t set at (p ++ rest) (length p)
  good_maps_read t set at p rest bytes good =
      let few = of_elements set in
      let maps = maps_agree t.bitmap good.two set few p (within_elements set) good.bitmaps in
      let read = words_again laws t good.two few at p rest bytes (within_elements set 65 (omega arith) (omega arith) ∙ good.no_third) (are_known t set good.rows) maps in
      record { primary = read.primary; secondary = read.secondary; read = read.read; agrees = λ k from to. read.agrees k from to ∙ within_elements set k from to }

  pub record PrimaryTaken (t : Layout) (b : List ℕ) (w : ℕ) : Type 0 where
    pub room : map_size t.bitmap ≤ length b
    pub none : unknown t.rows (numbers_in w 0) ≡ None
    pub primary : top ≤ w → IsPrimaryOfTwo t (take (map_size t.bitmap) b)

  -- a primary bitmap that is read is a good one
  pub primary_taken : (t : Layout) (at : ℕ) (b : List ℕ) (w : ℕ) → AreBytes b → primary_at t at b ≡ Ok w → PrimaryTaken t b w
  primary_taken t at b w bytes e =
      let n = map_size t.bitmap in
      let one = bind_ok (word_at t.bitmap 0 at b) (primary_known_by t at) w e in
      let known = known_ok 0 at one.0 w (unknown t.rows (numbers_in one.0 0)) one.2 in
      let got = short_or (ltb (length b) n) 0 at (word_by 0 at (word_in t.bitmap (take n b))) one.0 one.1 in
      let room : n ≤ length b = ltb-false (length b) n got.0 in
      let word = word_of laws t.bitmap b one.0 bytes room (word_or 0 at (word_in t.bitmap (take n b)) one.0 got.1) in
      subst (PrimaryTaken t b) known.1 (record {
        room = room;
        none = known.0;
        primary = λ large. (has_bit one.0, bits_agree t.bitmap (has_bit one.0) (primary_bits true (has_bit one.0)) (take n b) (λ k low high. first_of_word one.0 k word.small large) word.bits, primary_known t one.0 known.0);
      })

  all_rows_by : (c : Bool) (t : Layout) (at w : ℕ) (b : List ℕ) (x : ℕ × ℕ × ℕ) → unknown t.rows (numbers_in w 0) ≡ None
      → cond c (words w 0 (map_size t.bitmap)) (secondary_at t (at + map_size t.bitmap) (drop (map_size t.bitmap) b) >>= λ v. words w v (map_size t.bitmap + map_size t.bitmap)) ≡ Ok x → HaveRows t (in_words x.0 x.1) 2 129
  all_rows_by true t at w b x none e =
      let n = map_size t.bitmap in
      subst (λ (x : ℕ × ℕ × ℕ). HaveRows t (in_words x.0 x.1) 2 129) (ok_is (w, 0, n) x e) (all_have_rows t.rows (in_words w 0) 127 2 none)
  all_rows_by false t at w b x none e =
      let n = map_size t.bitmap in
      let two = bind_ok (secondary_at t (at + n) (drop n b)) (λ v. words w v (n + n)) x e in
      let v : ℕ = two.0 in
      let other = bind_ok (word_at t.bitmap 1 (at + n) (drop n b)) (secondary_known t (at + n)) v two.1 in
      let known = second_ok (ltb other.0 top) (at + n) other.0 v (unknown t.rows (numbers_in 0 other.0)) other.2 in
      let none_above : unknown t.rows (numbers_in 0 v) ≡ None = subst (λ (v : ℕ). unknown t.rows (numbers_in 0 v) ≡ None) known.1 known.0 in
      let rows : HaveRows t (in_words w v) 2 129 = λ k from to here.
      elim (cases_lt 64 k) [
        | inl above ↦ secondary_numbers_known t w v none_above k (omega arith) to here
        | inr low ↦ primary_known t w none k from (omega arith) (sym (in_first w v k low) ∙ here)
      ] in
      subst (λ (x : ℕ × ℕ × ℕ). HaveRows t (in_words x.0 x.1) 2 129) (ok_is (w, v, n + n) x two.2) rows

  -- bitmaps that are read have elements with rows alone
  pub all_rows : (t : Layout) (at : ℕ) (b : List ℕ) (x : ℕ × ℕ × ℕ) → AreBytes b → words_at t at b ≡ Ok x → HaveRows t (in_words x.0 x.1) 2 129
  all_rows t at b x bytes e =
      let one = bind_ok (primary_at t at b) (words_by t at b) x e in
      all_rows_by (ltb one.0 top) t at one.0 b x (primary_taken t at b one.0 bytes one.1).none one.2
