-- Bytes that end inside a piece are fewer than the longest message has.
use Rattle.std.proofs.Common.{◌≡◌, ℕ, zero, suc, ◌+◌, ◌/◌, ◌≤◌, ◌<◌, Bool, true, false, cond, ltb, eqb, List, [], ◌∷◌, length, take, drop, Option, Some, None, Result, Ok, Err, ◌⊎◌, inl, inr, refl, ap, subst, ◌∙◌, arith}
use Rattle.std.specs.Prelude.{sum_by}
use Rattle.std.proofs.lemmas.Bool.{ltb-true}
use Rattle.std.proofs.lemmas.List.Sums.{sum_by-cons}
use Rattle.std.proofs.lemmas.List.{length-drop}
use Rattle.iso_parts.specs.Digits.{four_digits_in}
use Rattle.iso_parts.specs.declared.spec.FieldSpec.{FieldSpec}
use Rattle.iso_parts.specs.declared.bitmap.BitmapCoding.{BitmapCoding}
use Rattle.iso_parts.specs.Bitmap.{map_size, in_words}
use Rattle.iso_parts.specs.BitmapReading.{word_in, top}
use Rattle.iso_parts.specs.Reading.{FieldReading, got, more, fault, part_at}
use Rattle.iso_parts.specs.PartLaws.{PartLaws, IsUpTo}
use Rattle.iso_table.specs.Layout.{Layout, row_at}
use Rattle.iso_table.specs.Sizes.{field_bytes, place_bytes, max_bytes}
use Rattle.iso_wire.specs.declared.fault.UnpackFault.{UnpackFault}
use Rattle.iso_wire.specs.declared.fault.UnpackCause.TheVariants.{Short, WrongVersion, ThirdBitmap, UnknownElement, Field}
use Rattle.iso_wire.specs.Contents.{Contents}
use Rattle.iso_parts.specs.Numbers.{numbers, numbers_in}
use Rattle.iso_wire.specs.Numbers.{unknown}
use Rattle.iso_parts.specs.Mti.{mti_size}
use Rattle.iso_wire.proofs.NumberLaws.{one_more, no_more, no_numbers}
use Rattle.iso_wire.specs.Reading.{◌>>=◌, halt, of_version, type_at, word_by, word_at, known_by, primary_at, secondary_known, secondary_at, words_by, words_at, answer, value_by, elements_at, message_at, whole}
use Rattle.iso_wire.specs.ReadingLaws.{IsShort}
use Rattle.iso_wire.specs.Taking.{IsReady}
use Rattle.iso_wire.proofs.Orders.{Values}

-- ---- sizes

-- the rows from a number on
abbrev from_row : List (Option FieldSpec) → ℕ → ℕ
from_row rows n = sum_by place_bytes (drop n rows)

next_row : (rows : List (Option FieldSpec)) (n : ℕ) → from_row rows n ≡ place_bytes (row_at rows n) + from_row rows (suc n)
next_row [] zero = refl
next_row [] (suc n) = refl
next_row (r ∷ rows) zero = sum_by-cons place_bytes r rows
next_row (r ∷ rows) (suc n) = next_row rows n

rows_from : (rows : List (Option FieldSpec)) (n : ℕ) → from_row rows n ≡ place_bytes (row_at rows n) + from_row rows (n + 1)
rows_from rows n = let next : suc n ≡ n + 1 = omega arith in next_row rows n ∙ ap (λ (k : ℕ). place_bytes (row_at rows n) + from_row rows k) next

all_rows : (rows : List (Option FieldSpec)) (n : ℕ) → from_row rows n ≤ from_row rows 0
all_rows rows zero = omega arith
all_rows rows (suc n) = omega (arith, all_rows rows n, next_row rows n)

-- ---- where a short answer comes from

short_of : {A B : Type 0} (r : Result A UnpackFault) (f : A → Result B UnpackFault) → IsShort (r >>= f) → IsShort r ⊎ ((x : A) × (r ≡ Ok x) × IsShort (f x))
short_of (Ok x) f h = inr (x, refl, h)
short_of (Err e) f h = inl h

fewer : {A : Type 0} (t : Bool) (element at len size : ℕ) (r : Result A UnpackFault) → ltb len size ≡ t → (IsShort r → ⊥) → IsShort (cond t (halt element at Short) r) → len < size
fewer true element at len size r is other h = ltb-true len size is
fewer false element at len size r is other h = absurd (other h)

either : {A : Type 0} (t : Bool) (r q : Result A UnpackFault) → (IsShort r → ⊥) → (IsShort q → ⊥) → IsShort (cond t r q) → ⊥
either true r q one two h = one h
either false r q one two h = two h

version_long : (version : ℕ) (o : Option ℕ) → IsShort (of_version version o) → ⊥
version_long version None = λ e. cc
version_long version (Some n) = either (eqb (n / 1000) version) (Ok n) (halt 0 0 WrongVersion) (λ h. h) (λ e. cc)

type_short : (t : Layout) (b : List ℕ) → IsShort (type_at t b) → length b < mti_size t.mti
type_short t b h = fewer (ltb (length b) (mti_size t.mti)) 0 0 (length b) (mti_size t.mti) (of_version t.version (four_digits_in t.mti (take (mti_size t.mti) b))) refl (version_long t.version (four_digits_in t.mti (take (mti_size t.mti) b))) h

hex_long : (element at : ℕ) (o : Option ℕ) → IsShort (word_by element at o) → ⊥
hex_long element at None = λ e. cc
hex_long element at (Some w) = λ h. h

word_short : (c : BitmapCoding) (element at : ℕ) (b : List ℕ) → IsShort (word_at c element at b) → length b < map_size c
word_short c element at b h = fewer (ltb (length b) (map_size c)) element at (length b) (map_size c) (word_by element at (word_in c (take (map_size c) b))) refl (hex_long element at (word_in c (take (map_size c) b))) h

known_long : (element at w : ℕ) (o : Option ℕ) → IsShort (known_by element at w o) → ⊥
known_long element at w None = λ h. h
known_long element at w (Some n) = λ e. cc

primary_short : (t : Layout) (at : ℕ) (b : List ℕ) → IsShort (primary_at t at b) → length b < map_size t.bitmap
primary_short t at b h = elim (short_of (word_at t.bitmap 0 at b) (λ w. known_by 0 at w (unknown t.rows (numbers_in w 0))) h) [
  | inl short ↦ word_short t.bitmap 0 at b short
  | inr x ↦ absurd (known_long 0 at x.0 (unknown t.rows (numbers_in x.0 0)) x.2)
]

second_long : (t : Layout) (at w : ℕ) → IsShort (secondary_known t at w) → ⊥
second_long t at w = either (ltb w top) (known_by 1 at w (unknown t.rows (numbers_in 0 w))) (halt 1 at ThirdBitmap) (known_long 1 at w (unknown t.rows (numbers_in 0 w))) (λ e. cc)

secondary_short : (t : Layout) (at : ℕ) (b : List ℕ) → IsShort (secondary_at t at b) → length b < map_size t.bitmap
secondary_short t at b h = elim (short_of (word_at t.bitmap 1 at b) (secondary_known t at) h) [
  | inl short ↦ word_short t.bitmap 1 at b short
  | inr x ↦ absurd (second_long t at x.0 x.2)
]

abbrev words : ℕ → ℕ → ℕ → Result (ℕ × ℕ × ℕ) UnpackFault
words first second size = Ok (first, second, size)

by_short : (is : Bool) (t : Layout) (at first : ℕ) (b : List ℕ) → IsShort (cond is (words first 0 (map_size t.bitmap)) (secondary_at t (at + map_size t.bitmap) (drop (map_size t.bitmap) b) >>= λ second. words first second (map_size t.bitmap + map_size t.bitmap))) → length b < map_size t.bitmap + map_size t.bitmap
by_short true t at first b h = absurd h
by_short false t at first b h = elim (short_of (secondary_at t (at + map_size t.bitmap) (drop (map_size t.bitmap) b)) (λ second. words first second (map_size t.bitmap + map_size t.bitmap)) h) [
  | inl short ↦ omega (arith, secondary_short t (at + map_size t.bitmap) (drop (map_size t.bitmap) b) short, length-drop (map_size t.bitmap) b)
  | inr x ↦ absurd x.2
]

words_short : (t : Layout) (at : ℕ) (b : List ℕ) → IsShort (words_at t at b) → length b < map_size t.bitmap + map_size t.bitmap
words_short t at b h = elim (short_of (primary_at t at b) (words_by t at b) h) [
  | inl short ↦ omega (arith, primary_short t at b short)
  | inr x ↦ by_short (ltb x.0 top) t at x.0 b x.2
]

by_size : (is : Bool) (first size : ℕ) (r : Result ℕ UnpackFault) (x : ℕ × ℕ × ℕ) → cond is (words first 0 size) (r >>= λ second. words first second (size + size)) ≡ Ok x → x.2 ≤ size + size
by_size true first size r x e = let same : (first, 0, size) ≡ x = cc in subst (λ (y : ℕ × ℕ × ℕ). y.2 ≤ size + size) same (omega arith)
by_size false first size (Err f) x e = absurd cc
by_size false first size (Ok second) x e = let same : (first, second, size + size) ≡ x = cc in subst (λ (y : ℕ × ℕ × ℕ). y.2 ≤ size + size) same (omega arith)

words_size_by : (t : Layout) (at : ℕ) (b : List ℕ) (r : Result ℕ UnpackFault) (x : ℕ × ℕ × ℕ) → (r >>= words_by t at b) ≡ Ok x → x.2 ≤ map_size t.bitmap + map_size t.bitmap
words_size_by t at b (Ok first) x e = by_size (ltb first top) first (map_size t.bitmap) (secondary_at t (at + map_size t.bitmap) (drop (map_size t.bitmap) b)) x e
words_size_by t at b (Err f) x e = absurd cc

-- ---- elements

abbrev first_of : ℕ → List ℕ → Values × ℕ → Result (Values × ℕ) UnpackFault
first_of n v x = Ok ((n, v) ∷ x.0, x.1)

abbrev behind_value : List (Option FieldSpec) → ℕ → List ℕ → ℕ → List ℕ → List ℕ × ℕ → Result (Values × ℕ) UnpackFault
behind_value rows n ns at b first = elements_at rows ns (at + first.1) (drop first.1 b) >>= first_of n first.0

outcome_short : (rows : List (Option FieldSpec)) (s : FieldSpec) (n at later : ℕ) (ns b : List ℕ) (o : FieldReading) → IsUpTo (field_bytes s) (length b) o
    → ((at : ℕ) (b : List ℕ) → IsShort (elements_at rows ns at b) → length b < later) → IsShort (answer s n at (length b) o >>= behind_value rows n ns at b) → length b < field_bytes s + later
outcome_short rows s n at later ns b (got v used) up rest h = elim (short_of (elements_at rows ns (at + used) (drop used b)) (first_of n v) h) [
  | inl short ↦ omega (arith, rest (at + used) (drop used b) short, length-drop used b)
  | inr x ↦ absurd x.2
]
outcome_short rows s n at later ns b more up rest h = omega arith
outcome_short rows s n at later ns b (fault e) up rest h = absurd (let no : Field e ≡ Short = h in cc)

abbrev made : ℕ → Values × ℕ → Result (Contents × ℕ) UnpackFault
made mti read = whole (record { mti = mti; elements = read.0 }) read.1

abbrev behind_words : Layout → List ℕ → ℕ → ℕ × ℕ × ℕ → Result (Contents × ℕ) UnpackFault
behind_words t b mti w = elements_at t.rows (numbers_in w.0 w.1) (mti_size t.mti + w.2) (drop (mti_size t.mti + w.2) b) >>= made mti

module _ (laws : PartLaws) where
  value_short : (rows : List (Option FieldSpec)) (r : Option FieldSpec) (n at later : ℕ) (ns b : List ℕ)
      → ((at : ℕ) (b : List ℕ) → IsShort (elements_at rows ns at b) → length b < later) → IsShort (value_by r n at b >>= behind_value rows n ns at b) → length b < place_bytes r + later
  value_short rows None n at later ns b rest h = absurd (let no : UnknownElement n ≡ Short = h in cc)
  value_short rows (Some s) n at later ns b rest h = outcome_short rows s n at later ns b (part_at s b) (laws.most s b) rest h

  elements_by : (is : Bool) (rows : List (Option FieldSpec)) (set : ℕ → Bool) (count n at : ℕ) (b : List ℕ) → set n ≡ is
      → ((at : ℕ) (b : List ℕ) → IsShort (elements_at rows (numbers set count (n + 1)) at b) → length b < from_row rows (n + 1))
      → IsShort (elements_at rows (numbers set (suc count) n) at b) → length b < from_row rows n
  elements_by true rows set count n at b is rest h =
      let ns = numbers set count (n + 1) in
      let short = subst (λ (l : List ℕ). IsShort (elements_at rows l at b)) (one_more set count n is) h in
      omega (arith, value_short rows (row_at rows n) n at (from_row rows (n + 1)) ns b rest short, rows_from rows n)
  elements_by false rows set count n at b is rest h =
      let short = subst (λ (l : List ℕ). IsShort (elements_at rows l at b)) (no_more set count n is) h in
      omega (arith, rest at b short, rows_from rows n)

  elements_short : (rows : List (Option FieldSpec)) (set : ℕ → Bool) (count n at : ℕ) (b : List ℕ) → IsShort (elements_at rows (numbers set count n) at b) → length b < from_row rows n
  elements_short rows set zero n at b h = absurd (subst (λ (l : List ℕ). IsShort (elements_at rows l at b)) (no_numbers set n) h)
  elements_short rows set (suc count) n at b h = elements_by (set n) rows set count n at b refl (λ at b short. elements_short rows set count (n + 1) at b short) h

  -- ---- the whole message

  behind_short : (t : Layout) (b : List ℕ) (mti : ℕ) (w : ℕ × ℕ × ℕ) → words_at t (mti_size t.mti) (drop (mti_size t.mti) b) ≡ Ok w → IsShort (behind_words t b mti w) → length b < max_bytes t
  behind_short t b mti w read h =
      let size = mti_size t.mti in
      let start = size + w.2 in
      let maps : w.2 ≤ map_size t.bitmap + map_size t.bitmap = words_size_by t size (drop size b) (primary_at t size (drop size b)) w read in
      elim (short_of (elements_at t.rows (numbers_in w.0 w.1) start (drop start b)) (made mti) h) [
        | inl short ↦ omega (arith, elements_short t.rows (in_words w.0 w.1) 127 2 start (drop start b) short, length-drop start b, all_rows t.rows 2)
        | inr x ↦ absurd x.2
      ]

  type_then : (t : Layout) (b : List ℕ) (mti : ℕ) → IsShort (words_at t (mti_size t.mti) (drop (mti_size t.mti) b) >>= behind_words t b mti) → length b < max_bytes t
  type_then t b mti h =
      let size = mti_size t.mti in
      elim (short_of (words_at t size (drop size b)) (behind_words t b mti) h) [
        | inl short ↦ omega (arith, words_short t size (drop size b) short, length-drop size b)
        | inr x ↦ behind_short t b mti x.0 x.1 x.2
      ]

  pub short_is_small : (t : Layout) (b : List ℕ) → IsShort (message_at t b) → length b < max_bytes t
  unfolding message_at
  short_is_small t b h =
      elim (short_of (type_at t b) (λ mti. words_at t (mti_size t.mti) (drop (mti_size t.mti) b) >>= behind_words t b mti) h) [
        | inl short ↦ omega (arith, type_short t b short)
        | inr x ↦ type_then t b x.0 x.2
      ]

  pub ready_is_small : (t : Layout) (taken : List ℕ) (stopped : Option UnpackFault) → IsReady t taken stopped → length taken ≤ max_bytes t
  ready_is_small t taken None h = omega (arith, short_is_small t taken h)
  ready_is_small t taken (Some e) h = omega (arith, ap length h.0)
