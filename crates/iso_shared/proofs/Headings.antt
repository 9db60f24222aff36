-- The first record of a batch.
use Rattle.std.proofs.Common.{◌≡◌, ◌∙◌, ℕ, zero, suc, ◌^◌, ◌<◌, ◌/◌, ◌%◌, Bool, true, false, List, [], ◌∷◌, ◌++◌, length, take, drop, length-append, append_assoc, refl, sym, ap, arith, eq-eqb, eqb-true}
use Rattle.std.specs.Prelude.{◌==◌, bytes_eq, nat_lt, slice_index, if◌then◌else◌, Option, Some, None}
use Rattle.std.proofs.lemmas.Bool.Decides.{nat_tests}
use Rattle.std.proofs.lemmas.Slice.Eq.{bytes_eq-Decides}
use Rattle.std.specs.List.{list_all}
use Rattle.std.proofs.lemmas.List.{take_at, drop_at}
use Rattle.std.proofs.lemmas.List.Folds.{list_all-append, list_all_at}
use Rattle.std.proofs.lemmas.Bool.{and_from, and_parts}
use Rattle.hex.specs.Hex.{encode_lower, encode_with, lower_digits, decode_sized, IsBytes}
use Rattle.hex.proofs.HexLemmas.{length-encode_with, decode_sized-encode_lower}
use Rattle.iso_wire.specs.Decimal.{decimal, number_in, is_digit}
use Rattle.iso_wire.specs.DecimalLaws.{DecimalLaws}
use Rattle.iso_log.specs.Slots.{is_nonzero, is_whole}
use Rattle.iso_shared.specs.declared.heading.Writer.{Writer}
use Rattle.iso_shared.specs.declared.heading.Heading.{Heading as Head}
use Rattle.iso_shared.specs.Heading.{magic, heading_bytes, heading_by, heading_in, writer_by, is_writer, is_heading}
use Rattle.iso_record.specs.Row.{blanks, part}

-- ---- no byte is zero

nonzero_both : (xs ys : List ℕ) → list_all is_nonzero xs ≡ true → list_all is_nonzero ys ≡ true → list_all is_nonzero (xs ++ ys) ≡ true
nonzero_both xs ys a b = list_all-append is_nonzero xs ys ∙ and_from _ _ a b

nonzero_of : (xs : List ℕ) → list_all is_digit xs ≡ true → list_all is_nonzero xs ≡ true
nonzero_of [] h = refl
nonzero_of (x ∷ xs) h =
    let both = and_parts (is_digit x) (list_all is_digit xs) h in
    and_from _ _ (one x both.0) (nonzero_of xs both.1)
  where
    one : (x : ℕ) → is_digit x ≡ true → is_nonzero x ≡ true
    one x d = grind (arith, nat_tests, d)

length-magic : length magic ≡ 28
unfolding magic
length-magic = refl

nonzero_magic : list_all is_nonzero magic ≡ true
unfolding magic
nonzero_magic = refl

not_false : (b : Bool) → (b ≡ false → ⊥) → b ≡ true
not_false true never = refl
not_false false never = absurd (never refl)

nonzero_hex_digit : (d : ℕ) → d < 16 → is_nonzero (slice_index lower_digits d) ≡ true
nonzero_hex_digit d lt =
    not_false (is_nonzero (slice_index lower_digits d))
    (λ zero. true_false (list_all_at is_nonzero lower_digits d 0 (omega (arith, lt)) zero))
  where
    true_false : list_all is_nonzero lower_digits ≡ false → ⊥
    true_false e = let all : list_all is_nonzero lower_digits ≡ true = refl in cc

nonzero_hex : (xs : List ℕ) → IsBytes xs → list_all is_nonzero (encode_with lower_digits xs) ≡ true
unfolding encode_with
nonzero_hex [] are = refl
nonzero_hex (b ∷ rest) are =
    let fits : b < 256 = are 0 in
    and_from _ _ (nonzero_hex_digit (b / 16) (omega (arith, fits)))
    (and_from _ _ (nonzero_hex_digit (b % 16) (omega arith)) (nonzero_hex rest (λ k. are (suc k))))

-- ---- a writer

pub bytes_all : (xs : List ℕ) → IsBytes xs → list_all (λ b. nat_lt b 256) xs ≡ true
bytes_all [] are = refl
bytes_all (x ∷ xs) are =
    let lt : x < 256 = are 0 in
    let first : nat_lt x 256 ≡ true = grind (arith, nat_tests, lt) in
    and_from _ _ first (bytes_all xs (λ k. are (suc k)))

all_bytes : (xs : List ℕ) → list_all (λ b. nat_lt b 256) xs ≡ true → IsBytes xs
all_bytes [] h i = omega arith
all_bytes (x ∷ xs) h zero = let both = and_parts (nat_lt x 256) (list_all (λ b. nat_lt b 256) xs) h in grind (arith, nat_tests, both.0)
all_bytes (x ∷ xs) h (suc i) = all_bytes xs (and_parts (nat_lt x 256) (list_all (λ b. nat_lt b 256) xs) h).1 i

pub writer_is : (w : Writer) → length w.bits ≡ 16 → IsBytes w.bits → is_writer w ≡ true
writer_is w long are = and_from _ _ (eq-eqb (length w.bits) 16 long) (bytes_all w.bits are)

writer_parts : (w : Writer) → is_writer w ≡ true → (length w.bits ≡ 16) × IsBytes w.bits
writer_parts w h =
    let both = and_parts (length w.bits == 16) (list_all (λ b. nat_lt b 256) w.bits) h in
    (eqb-true (length w.bits) 16 both.0, all_bytes w.bits both.1)

pub length-name : (w : Writer) → is_writer w ≡ true → length (encode_lower w.bits) ≡ 32
length-name w h = let parts = writer_parts w h in omega (arith, parts.0, length-encode_with lower_digits w.bits)

-- ---- each heading is a record

module _ (decimals : DecimalLaws) (h : Head) (is : is_writer h.writer ≡ true) where
  abbrev p : List ℕ
  p = decimal 10 h.place

  abbrev w : List ℕ
  w = encode_lower h.writer.bits

  abbrev e : List ℕ
  e = blanks 57 ++ 10 ∷ []

  heading_long : length (magic ++ (p ++ (w ++ e))) ≡ 128
  heading_long =
      length-append magic (p ++ (w ++ e))
      ∙ omega (arith, length-magic, length-append p (w ++ e), length-append w e, decimals.size 10 h.place, length-name h.writer is)

  heading_nonzero : list_all is_nonzero (magic ++ (p ++ (w ++ e))) ≡ true
  heading_nonzero =
      nonzero_both magic (p ++ (w ++ e)) nonzero_magic
      (nonzero_both p (w ++ e) (nonzero_of p (decimals.digits 10 h.place))
      (nonzero_both w e (nonzero_hex h.writer.bits (writer_parts h.writer is).1) refl))

  pub heading_whole : is_whole (heading_bytes h) ≡ true
  unfolding heading_bytes
  heading_whole = and_from _ _ (eq-eqb (length (magic ++ (p ++ (w ++ e)))) 128 heading_long) heading_nonzero

  place_part : part (magic ++ (p ++ (w ++ e))) 28 10 ≡ p
  place_part = ap (take 10) (drop_at magic (p ++ (w ++ e)) 28 length-magic) ∙ take_at p (w ++ e) 10 (decimals.size 10 h.place)

  name_part : part (magic ++ (p ++ (w ++ e))) 38 32 ≡ w
  name_part =
      ap (λ (l : List ℕ). take 32 (drop 38 l)) (sym (append_assoc magic p (w ++ e)))
      ∙ ap (take 32) (drop_at (magic ++ p) (w ++ e) 38 (length-append magic p ∙ omega (arith, length-magic, decimals.size 10 h.place)))
      ∙ take_at w e 32 (length-name h.writer is)

  place_back : h.place < 10 ^ 10 → number_in 10 10 (part (magic ++ (p ++ (w ++ e))) 28 10) ≡ Some h.place
  place_back lt = ap (number_in 10 10) place_part ∙ rw (decimals.text 10 h.place) (ap Some (decimals.number 10 h.place lt))

  name_back : writer_by (decode_sized (part (magic ++ (p ++ (w ++ e))) 38 32) 16) ≡ Some h.writer
  name_back =
      let parts = writer_parts h.writer is in
      ap (λ (l : List ℕ). writer_by (decode_sized l 16)) name_part ∙ ap writer_by (decode_sized-encode_lower h.writer.bits 16 parts.0 parts.1)

same_bytes : (xs : List ℕ) → bytes_eq xs xs ≡ true
same_bytes xs = (bytes_eq-Decides xs xs).1 refl

pub heading_back : DecimalLaws → (h : Head) → is_heading h ≡ true → heading_in (heading_bytes h) ≡ Some h
unfolding heading_in heading_bytes
heading_back decimals h is =
    let both = and_parts (nat_lt h.place (10 ^ 10)) (is_writer h.writer) is in
    let lt : h.place < 10 ^ 10 = grind (arith, nat_tests, both.0) in
    ap (λ (o : Option ℕ). heading_by (heading_bytes h) o (writer_by (decode_sized (part (heading_bytes h) 38 32) 16))) (place_back decimals h both.1 lt)
    ∙ ap (λ (o : Option Writer). heading_by (heading_bytes h) (Some h.place) o) (name_back decimals h both.1)
    ∙ rw (same_bytes (heading_bytes h)) refl

-- ---- nothing else is one

only_by : (text : List ℕ) (o : Option ℕ) (v : Option Writer) (h : Head) → heading_by text o v ≡ Some h → heading_bytes h ≡ text
only_by text (Some place) (Some writer) h is = by_test (bytes_eq (heading_bytes g) text) refl is
  where
    g : Head
    g = record { place = place; writer = writer }

    by_test : (t : Bool) → bytes_eq (heading_bytes g) text ≡ t → (if t then Some g else None) ≡ Some h → heading_bytes h ≡ text
    by_test true e same = let s : g ≡ h = cc in ap heading_bytes (sym s) ∙ (bytes_eq-Decides (heading_bytes g) text).0 e
    by_test false e same = cc
only_by text (Some place) None h is = cc
only_by text None v h is = cc

pub heading_only : (text : List ℕ) (h : Head) → heading_in text ≡ Some h → heading_bytes h ≡ text
unfolding heading_in
heading_only text h is = only_by text (number_in 10 10 (part text 28 10)) (writer_by (decode_sized (part text 38 32) 16)) h is

-- ---- what is written

pub heading_put : (h : Head) (t0 t1 t2 t3 t4 t5 place name : List ℕ) → t0 ≡ [] → t1 ≡ t0 ++ magic → t2 ≡ t1 ++ place → t3 ≡ t2 ++ name → t4 ≡ t3 ++ blanks 57 → t5 ≡ t4 ++ 10 ∷ []
    → place ≡ decimal 10 h.place → name ≡ encode_lower h.writer.bits → t5 ≡ heading_bytes h
unfolding heading_bytes
heading_put h t0 t1 t2 t3 t4 t5 place name e0 e1 e2 e3 e4 e5 ep en =
    e5 ∙ ap (λ (x : List ℕ). x ++ 10 ∷ []) (e4 ∙ ap (λ (x : List ℕ). x ++ blanks 57) (e3 ∙ ap (λ (x : List ℕ). x ++ name) (e2 ∙ ap (λ (x : List ℕ). x ++ place) (e1 ∙ ap (λ (x : List ℕ). x ++ magic) e0))))
    ∙ together magic place name (blanks 57) (10 ∷ [])
    ∙ ap (λ (x : List ℕ). magic ++ (x ++ (name ++ (blanks 57 ++ 10 ∷ [])))) ep
    ∙ ap (λ (x : List ℕ). magic ++ (decimal 10 h.place ++ (x ++ (blanks 57 ++ 10 ∷ [])))) en
  where
    together : (m p n b e : List ℕ) → (((([] ++ m) ++ p) ++ n) ++ b) ++ e ≡ m ++ (p ++ (n ++ (b ++ e)))
    together m p n b e = simp append_assoc refl
