-- Reading stops at a message type or a bitmap exactly where the piece isn't whole, or is bad.
use Rattle.std.proofs.Common.{◌≡◌, ◌≢◌, ℕ, ◌-◌, ◌/◌, ◌≤◌, ◌<◌, ◌^◌, Bool, true, false, cond, eqb, ltb, List, length, take, Option, Some, None, Result, Ok, Err, refl, sym, ap, ◌∙◌, arith, inl, inr}
use Rattle.std.proofs.lemmas.Bool.{cases_eq, cases_lt, eqb-true, ltb-false, ltb-true, lt-ltb, le-ltb, cond-true, cond-false}
use Rattle.std.proofs.lemmas.Bool.Decides.{nat_tests}
use Rattle.std.proofs.lemmas.Nat.Bits.{bit_at-zero}
use Rattle.std.proofs.lemmas.List.{length-take}
use Rattle.iso_parts.specs.Digits.{four_digits_in}
use Rattle.iso_parts.specs.declared.bitmap.BitmapCoding.{BitmapCoding}
use Rattle.iso_parts.specs.Bitmap.{BitsIn, map_size, in_words, secondary_bits}
use Rattle.iso_parts.specs.BitmapReading.{top, word_in}
use Rattle.iso_parts.specs.MapLaws.{MapLaws, has_bit}
use Rattle.iso_table.specs.Layout.{Layout}
use Rattle.iso_wire.specs.declared.fault.UnpackFault.{UnpackFault}
use Rattle.iso_wire.specs.declared.fault.UnpackCause.{UnpackCause}
use Rattle.iso_wire.specs.declared.fault.UnpackCause.TheVariants as causes
use Rattle.iso_parts.specs.Numbers.{numbers_in}
use Rattle.iso_wire.specs.Numbers.{unknown}
use Rattle.iso_parts.specs.Mti.{mti_size}
use Rattle.iso_wire.specs.Reading.{◌>>=◌, halt, of_version, type_at, word_by, word_at, known_by, primary_at, secondary_known, secondary_at}
use Rattle.iso_wire.specs.Spelling.{AreBytes}
use Rattle.iso_wire.specs.Stops.{Piece, type, primary, secondary, owner, IsType, IsOwnType, HaveRows, IsUnknown, Halts}
use Rattle.iso_wire.proofs.Bytes.{bytes_take}
use Rattle.iso_wire.proofs.ElementLaws.{ok_is}
use Rattle.iso_wire.proofs.Messages.{version_or}
use Rattle.iso_wire.proofs.NumberLaws.{all_known}
use Rattle.iso_wire.proofs.StopsNumbers.{all_have_rows, lowest_unknown, unknown_again}
use Rattle.iso_wire.proofs.Types.{mti_again, mti_takes}
use Rattle.iso_wire.proofs.WordLaws.{small_first, large_first, bits_agree, one_none, short_or}

-- ---- a piece that stops reading

abbrev pub failed : {A : Type 0} → UnpackFault → Result A UnpackFault
failed e = Err e

pub fault_is : {A : Type 0} (x y : UnpackFault) → failed {A = A} x ≡ failed y → x ≡ y
fault_is x y h = cc

abbrev pub fault_at : ℕ → ℕ → UnpackCause → UnpackFault
fault_at element at cause = record { at = at; element = element; cause = cause }

-- the piece, which begins the rest at the offset, stops reading with this fault
abbrev pub HaltsAs : Layout → Piece → ℕ → List ℕ → UnpackFault → Type 0
HaltsAs t piece at rest e = (cause : UnpackCause) × (fault_at (owner piece) at cause ≡ e) × Halts t piece rest cause

-- ---- the message type

version_by : (c : Bool) (t : Layout) (b : List ℕ) (n : ℕ) (e : UnpackFault) → mti_size t.mti ≤ length b → IsType t n (take (mti_size t.mti) b) → eqb (n / 1000) t.version ≡ c → cond c (Ok n) (halt 0 0 causes.WrongVersion) ≡ Err e → HaltsAs t type 0 b e
version_by true t b n e room is_type is h = absurd cc
version_by false t b n e room is_type is h =
    (causes.WrongVersion, fault_is {A = ℕ} _ e h, (room, (n, is_type, λ same. absurd (let other : eqb (n / 1000) t.version ≡ true = grind (arith, nat_tests) in let x : true ≡ false = sym other ∙ is in cc))))

digits_by : (o : Option ℕ) (t : Layout) (b : List ℕ) (e : UnpackFault) → AreBytes b → mti_size t.mti ≤ length b → four_digits_in t.mti (take (mti_size t.mti) b) ≡ o → of_version t.version o ≡ Err e → HaltsAs t type 0 b e
digits_by None t b e bytes room is h =
    (causes.BadMti, fault_is {A = ℕ} _ e h, (room, λ n typed. absurd (let other : None ≡ Some n = sym is ∙ ap (four_digits_in t.mti) typed.1 ∙ mti_again t.mti n typed.0 in cc)))
digits_by (Some n) t b e bytes room is h =
    let typed = mti_takes t.mti n (take (mti_size t.mti) b) (bytes_take (mti_size t.mti) b bytes) is in
    version_by (eqb (n / 1000) t.version) t b n e room (typed.small, typed.bytes) refl h

type_by : (c : Bool) (t : Layout) (b : List ℕ) (e : UnpackFault) → AreBytes b → ltb (length b) (mti_size t.mti) ≡ c → cond c (halt 0 0 causes.Short) (of_version t.version (four_digits_in t.mti (take (mti_size t.mti) b))) ≡ Err e → HaltsAs t type 0 b e
type_by true t b e bytes is h = (causes.Short, fault_is {A = ℕ} _ e h, ltb-true (length b) (mti_size t.mti) is)
type_by false t b e bytes is h = digits_by (four_digits_in t.mti (take (mti_size t.mti) b)) t b e bytes (ltb-false (length b) (mti_size t.mti) is) refl h

-- where no type is read, it isn't whole or is bad
pub type_halts : (t : Layout) (b : List ℕ) (e : UnpackFault) → AreBytes b → type_at t b ≡ Err e → HaltsAs t type 0 b e
type_halts t b e bytes h = type_by (ltb (length b) (mti_size t.mti)) t b e bytes refl h

pub record TypeTaken (t : Layout) (b : List ℕ) : Type 0 where
  pub room : mti_size t.mti ≤ length b
  pub own : IsOwnType t (take (mti_size t.mti) b)

-- a type that is read is a good one
pub type_taken : (t : Layout) (b : List ℕ) (n : ℕ) → AreBytes b → type_at t b ≡ Ok n → TypeTaken t b
type_taken t b n bytes e =
    let size = mti_size t.mti in
    let typed = short_or (ltb (length b) size) 0 0 (of_version t.version (four_digits_in t.mti (take size b))) n e in
    let version = version_or t.version (four_digits_in t.mti (take size b)) n typed.1 in
    let got = mti_takes t.mti n (take size b) (bytes_take size b bytes) version.0 in
    record { room = ltb-false (length b) size typed.0; own = (n, (got.small, got.bytes), version.1) }

whole_type : (t : Layout) (b : List ℕ) → mti_size t.mti ≤ length b → type_at t b ≡ of_version t.version (four_digits_in t.mti (take (mti_size t.mti) b))
whole_type t b room = cond-false (ltb (length b) (mti_size t.mti)) (halt 0 0 causes.Short) (of_version t.version (four_digits_in t.mti (take (mti_size t.mti) b))) (le-ltb (length b) (mti_size t.mti) room)

no_digits : (o : Option ℕ) (t : Layout) (b : List ℕ) → AreBytes b → four_digits_in t.mti (take (mti_size t.mti) b) ≡ o → ((n : ℕ) → IsType t n (take (mti_size t.mti) b) → ⊥) → of_version t.version o ≡ halt 0 0 causes.BadMti
no_digits None t b bytes is none = refl
no_digits (Some n) t b bytes is none =
    let typed = mti_takes t.mti n (take (mti_size t.mti) b) (bytes_take (mti_size t.mti) b bytes) is in
    absurd (none n (typed.small, typed.bytes))

other_version : (c : Bool) (n version : ℕ) → eqb (n / 1000) version ≡ c → n / 1000 ≢ version → cond c (Ok n) (halt 0 0 causes.WrongVersion) ≡ halt 0 0 causes.WrongVersion
other_version true n version is other = absurd (other (eqb-true (n / 1000) version is))
other_version false n version is other = refl

-- where the type isn't whole or is bad, reading stops there
pub type_is_halted : (t : Layout) (b : List ℕ) (cause : UnpackCause) → AreBytes b → Halts t type b cause → type_at t b ≡ halt 0 0 cause
type_is_halted t b causes.Short bytes h =
    cond-true (ltb (length b) (mti_size t.mti)) (halt 0 0 causes.Short) (of_version t.version (four_digits_in t.mti (take (mti_size t.mti) b))) (lt-ltb (length b) (mti_size t.mti) h)
type_is_halted t b causes.BadMti bytes h = whole_type t b h.0 ∙ no_digits (four_digits_in t.mti (take (mti_size t.mti) b)) t b bytes refl h.1
type_is_halted t b causes.WrongVersion bytes h =
    let n : ℕ = h.1.0 in
    whole_type t b h.0 ∙ ap (λ (p : List ℕ). of_version t.version (four_digits_in t.mti p)) h.1.1.1 ∙ ap (of_version t.version) (mti_again t.mti n h.1.1.0) ∙ other_version (eqb (n / 1000) t.version) n t.version refl h.1.2
type_is_halted t b causes.BadHex bytes h = absurd h.1
type_is_halted t b causes.ThirdBitmap bytes h = absurd h.1
type_is_halted t b (causes.UnknownElement n) bytes h = absurd h.1
type_is_halted t b (causes.Field f) bytes h = absurd h.1
type_is_halted t b causes.Memory bytes h = absurd h.1

-- ---- the numbers of one word

pub in_first : (w v k : ℕ) → k ≤ 64 → in_words w v k ≡ has_bit w k
in_first w v k low = grind (arith, nat_tests)

in_second : (w v k : ℕ) → 64 < k → k ≤ 128 → in_words w v k ≡ has_bit v (k - 64)
in_second w v k low high = let e : 64 - (k - 64) ≡ 128 - k = omega arith in grind (arith, nat_tests)

none_first : (v k : ℕ) → k ≤ 64 → in_words 0 v k ≡ false
none_first v k low = let z = bit_at-zero (64 - k) in grind (arith, nat_tests)

-- the numbers of a set from low on, before end, are those of the word
abbrev pub Agrees : (ℕ → Bool) → (ℕ → Bool) → ℕ → ℕ → Type 0
Agrees set other low end = (k : ℕ) → low ≤ k → k < end → set k ≡ other k

no_truth : (b : Bool) → b ≡ true → b ≡ false → ⊥
no_truth b holds fails = absurd (let x : true ≡ false = sym holds ∙ fails in cc)

pub primary_known : (t : Layout) (w : ℕ) → unknown t.rows (numbers_in w 0) ≡ None → HaveRows t (has_bit w) 2 65
primary_known t w h k low high here = all_have_rows t.rows (in_words w 0) 127 2 h k low (omega arith) (in_first w 0 k (omega arith) ∙ here)

pub secondary_numbers_known : (t : Layout) (w v : ℕ) → unknown t.rows (numbers_in 0 v) ≡ None → HaveRows t (in_words w v) 65 129
secondary_numbers_known t w v h k low high here = all_have_rows t.rows (in_words 0 v) 127 2 h k (omega arith) (omega arith) (in_second 0 v k (omega arith) (omega arith) ∙ sym (in_second w v k (omega arith) (omega arith)) ∙ here)

-- ---- the first number without a row

primary_unknown : (t : Layout) (w n : ℕ) → unknown t.rows (numbers_in w 0) ≡ Some n → IsUnknown t (has_bit w) 2 65 n
primary_unknown t w n h =
    let lowest = lowest_unknown t.rows (in_words w 0) 127 2 n h in
    elim (cases_lt 64 n) [
      | inl above ↦ absurd (no_truth (in_words w 0 n) lowest.there (one_none w n above (omega (arith, lowest.to))))
      | inr low ↦ record {
        from = lowest.from;
        to = omega arith;
        there = sym (in_first w 0 n low) ∙ lowest.there;
        row = lowest.row;
        others = λ k from to here. lowest.others k from to (in_first w 0 k (omega arith) ∙ here);
      }
    ]

pub primary_unknown_again : (t : Layout) (set : ℕ → Bool) (w n : ℕ) → Agrees (has_bit w) set 2 65 → IsUnknown t set 2 65 n → unknown t.rows (numbers_in w 0) ≡ Some n
primary_unknown_again t set w n agrees lowest =
    unknown_again t.rows (in_words w 0) 127 2 n (record {
      from = lowest.from;
      to = omega (arith, lowest.to);
      there = in_first w 0 n (omega (arith, lowest.to)) ∙ agrees n lowest.from lowest.to ∙ lowest.there;
      row = lowest.row;
      others = λ k from to here.
          let low : k ≤ 64 = omega (arith, lowest.to) in
          lowest.others k from to (sym (agrees k from (omega arith)) ∙ sym (in_first w 0 k low) ∙ here);
    })

pub primary_all_known : (t : Layout) (set : ℕ → Bool) (w : ℕ) → Agrees (has_bit w) set 2 65 → HaveRows t set 2 65 → unknown t.rows (numbers_in w 0) ≡ None
primary_all_known t set w agrees rows =
    all_known t.rows (in_words w 0) 127 2 (λ k from to here.
    elim (cases_lt 64 k) [
      | inl above ↦ absurd (no_truth (in_words w 0 k) here (one_none w k above (omega arith)))
      | inr low ↦ rows k from (omega arith) (sym (agrees k from (omega arith)) ∙ sym (in_first w 0 k low) ∙ here)
    ])

-- the numbers that a secondary bitmap's word tells
abbrev pub high_bits : ℕ → ℕ → Bool
high_bits v k = has_bit v (k - 64)

secondary_unknown : (t : Layout) (v n : ℕ) → v < top → unknown t.rows (numbers_in 0 v) ≡ Some n → IsUnknown t (high_bits v) 66 129 n
secondary_unknown t v n small h =
    let lowest = lowest_unknown t.rows (in_words 0 v) 127 2 n h in
    elim (cases_lt 64 n) [
      | inr low ↦ absurd (no_truth (in_words 0 v n) lowest.there (none_first v n low))
      | inl above ↦
          let there : high_bits v n ≡ true = sym (in_second 0 v n above (omega (arith, lowest.to))) ∙ lowest.there in
          elim (cases_eq n 65) [
            | inl third ↦ absurd (no_truth (high_bits v 65) (ap (high_bits v) (sym third) ∙ there) (small_first v small))
            | inr other ↦ record {
              from = omega arith;
              to = omega (arith, lowest.to);
              there = there;
              row = lowest.row;
              others = λ k from to here. lowest.others k (omega arith) to (in_second 0 v k (omega arith) (omega (arith, lowest.to)) ∙ here);
            }
          ]
    ]

pub secondary_unknown_again : (t : Layout) (set : ℕ → Bool) (v n : ℕ) → Agrees (high_bits v) set 65 129 → set 65 ≡ false → IsUnknown t set 66 129 n → unknown t.rows (numbers_in 0 v) ≡ Some n
secondary_unknown_again t set v n agrees no_third lowest =
    let told : (k : ℕ) → 64 < k → k ≤ 128 → in_words 0 v k ≡ set k = λ k above high. in_second 0 v k above high ∙ agrees k (omega arith) (omega arith) in
    unknown_again t.rows (in_words 0 v) 127 2 n (record {
      from = omega (arith, lowest.from);
      to = omega (arith, lowest.to);
      there = told n (omega (arith, lowest.from)) (omega (arith, lowest.to)) ∙ lowest.there;
      row = lowest.row;
      others = λ k from to here.
          elim (cases_lt 64 k) [
            | inr low ↦ absurd (no_truth (in_words 0 v k) here (none_first v k low))
            | inl above ↦
                let there : set k ≡ true = sym (told k above (omega (arith, lowest.to))) ∙ here in
                elim (cases_eq k 65) [
                  | inl third ↦ absurd (no_truth (set 65) (ap set (sym third) ∙ there) no_third)
                  | inr other ↦ lowest.others k (omega arith) to there
                ]
          ];
    })

-- ---- a bitmap

pub word_is : (c : BitmapCoding) (element at w : ℕ) (b : List ℕ) → map_size c ≤ length b → word_in c (take (map_size c) b) ≡ Some w → word_at c element at b ≡ Ok w
word_is c element at w b room read =
    cond-false (ltb (length b) (map_size c)) (halt element at causes.Short) (word_by element at (word_in c (take (map_size c) b))) (le-ltb (length b) (map_size c) room) ∙ ap (word_by element at) read

pub word_short : (c : BitmapCoding) (element at : ℕ) (b : List ℕ) → length b < map_size c → word_at c element at b ≡ halt element at causes.Short
word_short c element at b short = cond-true (ltb (length b) (map_size c)) (halt element at causes.Short) (word_by element at (word_in c (take (map_size c) b))) (lt-ltb (length b) (map_size c) short)

pub word_bad : (c : BitmapCoding) (element at : ℕ) (b : List ℕ) → map_size c ≤ length b → word_in c (take (map_size c) b) ≡ None → word_at c element at b ≡ halt element at causes.BadHex
word_bad c element at b room none =
    cond-false (ltb (length b) (map_size c)) (halt element at causes.Short) (word_by element at (word_in c (take (map_size c) b))) (le-ltb (length b) (map_size c) room) ∙ ap (word_by element at) none

pub known_ok : (element at w v : ℕ) (o : Option ℕ) → known_by element at w o ≡ Ok v → (o ≡ None) × (w ≡ v)
known_ok element at w v None e = (refl, ok_is w v e)
known_ok element at w v (Some n) e = absurd cc

pub second_ok : (c : Bool) (at w v : ℕ) (o : Option ℕ) → cond c (known_by 1 at w o) (halt 1 at causes.ThirdBitmap) ≡ Ok v → (o ≡ None) × (w ≡ v)
second_ok true at w v o e = known_ok 1 at w v o e
second_ok false at w v o e = absurd cc

abbrev pub primary_known_by : Layout → ℕ → ℕ → Result ℕ UnpackFault
primary_known_by t at w = known_by 0 at w (unknown t.rows (numbers_in w 0))

primary_by : (o : Option ℕ) (t : Layout) (at w : ℕ) (b : List ℕ) (e : UnpackFault) → map_size t.bitmap ≤ length b → BitsIn t.bitmap (has_bit w) (take (map_size t.bitmap) b) → unknown t.rows (numbers_in w 0) ≡ o → known_by 0 at w o ≡ Err e → HaltsAs t primary at b e
primary_by None t at w b e room bits is h = absurd cc
primary_by (Some n) t at w b e room bits is h = (causes.UnknownElement n, fault_is {A = ℕ} _ e h, (room, (has_bit w, bits, primary_unknown t w n is)))

unknown_by : (o : Option ℕ) (t : Layout) (at v : ℕ) (b : List ℕ) (e : UnpackFault) → map_size t.bitmap ≤ length b → v < top → BitsIn t.bitmap (secondary_bits (high_bits v)) (take (map_size t.bitmap) b) → unknown t.rows (numbers_in 0 v) ≡ o → known_by 1 at v o ≡ Err e → HaltsAs t secondary at b e
unknown_by None t at v b e room small bits is h = absurd cc
unknown_by (Some n) t at v b e room small bits is h = (causes.UnknownElement n, fault_is {A = ℕ} _ e h, (room, (high_bits v, bits, small_first v small, secondary_unknown t v n small is)))

secondary_by : (c : Bool) (t : Layout) (at v : ℕ) (b : List ℕ) (e : UnpackFault) → map_size t.bitmap ≤ length b → v < 2 ^ 64 → BitsIn t.bitmap (secondary_bits (high_bits v)) (take (map_size t.bitmap) b) → ltb v top ≡ c
    → cond c (known_by 1 at v (unknown t.rows (numbers_in 0 v))) (halt 1 at causes.ThirdBitmap) ≡ Err e → HaltsAs t secondary at b e
secondary_by true t at v b e room fits bits is h = unknown_by (unknown t.rows (numbers_in 0 v)) t at v b e room (ltb-true v top is) bits refl h
secondary_by false t at v b e room fits bits is h = (causes.ThirdBitmap, fault_is {A = ℕ} _ e h, (room, (high_bits v, bits, large_first v fits (ltb-false v top is))))

module _ (laws : MapLaws) where
  -- the word of a whole bitmap
  pub record WordOf (c : BitmapCoding) (b : List ℕ) (w : ℕ) : Type 0 where
    pub small : w < 2 ^ 64
    pub bits : BitsIn c (has_bit w) (take (map_size c) b)

  pub word_of : (c : BitmapCoding) (b : List ℕ) (w : ℕ) → AreBytes b → map_size c ≤ length b → word_in c (take (map_size c) b) ≡ Some w → WordOf c b w
  word_of c b w bytes room read =
      let n = map_size c in
      let got = laws.taken c (take n b) w (bytes_take n b bytes) (omega (arith, length-take n b)) read in
      record { small = got.0; bits = got.1 }

  no_word : (o : Option ℕ) (c : BitmapCoding) (set : ℕ → Bool) (p : List ℕ) → AreBytes p → word_in c p ≡ o → BitsIn c set p → o ≡ None → ⊥
  no_word o c set p bytes is bits none = absurd (let r = laws.again c set p bytes bits in let x : Some r.word ≡ None = sym r.read ∙ is ∙ none in cc)

  pub none_by : (o : Option ℕ) (c : BitmapCoding) (b : List ℕ) → AreBytes b → map_size c ≤ length b → ((w : ℕ) → BitsIn c (has_bit w) (take (map_size c) b) → ⊥) → word_in c (take (map_size c) b) ≡ o → o ≡ None
  none_by None c b bytes room none is = refl
  none_by (Some w) c b bytes room none is = absurd (none w (word_of c b w bytes room is).bits)

  pub second_bits : (c : BitmapCoding) (v : ℕ) (p : List ℕ) → BitsIn c (has_bit v) p → BitsIn c (secondary_bits (high_bits v)) p
  second_bits c v p bits = bits_agree c (has_bit v) (secondary_bits (high_bits v)) p (λ k low high. ap (has_bit v) (omega arith)) bits

  primary_by_word : (o : Option ℕ) (t : Layout) (at : ℕ) (b : List ℕ) (e : UnpackFault) → AreBytes b → map_size t.bitmap ≤ length b → word_in t.bitmap (take (map_size t.bitmap) b) ≡ o → word_by 0 at o >>= primary_known_by t at ≡ Err e → HaltsAs t primary at b e
  primary_by_word None t at b e bytes room is h =
      let n = map_size t.bitmap in
      (causes.BadHex, fault_is {A = ℕ} _ e h, (room, λ set bits. no_word None t.bitmap set (take n b) (bytes_take n b bytes) is bits refl))
  primary_by_word (Some w) t at b e bytes room is h = primary_by (unknown t.rows (numbers_in w 0)) t at w b e room (word_of t.bitmap b w bytes room is).bits refl h

  primary_by_size : (c : Bool) (t : Layout) (at : ℕ) (b : List ℕ) (e : UnpackFault) → AreBytes b → ltb (length b) (map_size t.bitmap) ≡ c
      → cond c (halt 0 at causes.Short) (word_by 0 at (word_in t.bitmap (take (map_size t.bitmap) b))) >>= primary_known_by t at ≡ Err e → HaltsAs t primary at b e
  primary_by_size true t at b e bytes is h = (causes.Short, fault_is {A = ℕ} _ e h, ltb-true (length b) (map_size t.bitmap) is)
  primary_by_size false t at b e bytes is h = primary_by_word (word_in t.bitmap (take (map_size t.bitmap) b)) t at b e bytes (ltb-false (length b) (map_size t.bitmap) is) refl h

  -- where no primary bitmap is read, it isn't whole or is bad
  pub primary_halts : (t : Layout) (at : ℕ) (b : List ℕ) (e : UnpackFault) → AreBytes b → primary_at t at b ≡ Err e → HaltsAs t primary at b e
  primary_halts t at b e bytes h = primary_by_size (ltb (length b) (map_size t.bitmap)) t at b e bytes refl h

  second_by_word : (o : Option ℕ) (t : Layout) (at : ℕ) (b : List ℕ) (e : UnpackFault) → AreBytes b → map_size t.bitmap ≤ length b → word_in t.bitmap (take (map_size t.bitmap) b) ≡ o → word_by 1 at o >>= secondary_known t at ≡ Err e → HaltsAs t secondary at b e
  second_by_word None t at b e bytes room is h =
      let n = map_size t.bitmap in
      (causes.BadHex, fault_is {A = ℕ} _ e h, (room, λ set bits. no_word None t.bitmap (secondary_bits set) (take n b) (bytes_take n b bytes) is bits refl))
  second_by_word (Some v) t at b e bytes room is h =
      let got = word_of t.bitmap b v bytes room is in
      secondary_by (ltb v top) t at v b e room got.small (second_bits t.bitmap v (take (map_size t.bitmap) b) got.bits) refl h

  second_by_size : (c : Bool) (t : Layout) (at : ℕ) (b : List ℕ) (e : UnpackFault) → AreBytes b → ltb (length b) (map_size t.bitmap) ≡ c
      → cond c (halt 1 at causes.Short) (word_by 1 at (word_in t.bitmap (take (map_size t.bitmap) b))) >>= secondary_known t at ≡ Err e → HaltsAs t secondary at b e
  second_by_size true t at b e bytes is h = (causes.Short, fault_is {A = ℕ} _ e h, ltb-true (length b) (map_size t.bitmap) is)
  second_by_size false t at b e bytes is h = second_by_word (word_in t.bitmap (take (map_size t.bitmap) b)) t at b e bytes (ltb-false (length b) (map_size t.bitmap) is) refl h

  -- nor a secondary one
  pub secondary_halts : (t : Layout) (at : ℕ) (b : List ℕ) (e : UnpackFault) → AreBytes b → secondary_at t at b ≡ Err e → HaltsAs t secondary at b e
  secondary_halts t at b e bytes h = second_by_size (ltb (length b) (map_size t.bitmap)) t at b e bytes refl h
