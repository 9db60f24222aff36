-- What is read is a spelling of the message, and what is spelled is read.
use Rattle.std.proofs.Common.{◌≡◌, ℕ, ◌+◌, ◌/◌, ◌≤◌, ◌<◌, Bool, true, false, cond, eqb, ltb, List, [], ◌∷◌, ◌++◌, length, take, drop, Option, Some, None, Ok, refl, sym, ap, subst, ◌∙◌, append_assoc, arith, inl, inr}
use Rattle.std.proofs.lemmas.Bool.{cases_eq, eqb-true, ltb-false, le-ltb, cond-true, cond-false}
use Rattle.std.proofs.lemmas.Bool.Decides.{nat_tests}
use Rattle.std.proofs.lemmas.List.{take_at, drop_at, drop-drop, length-append, length-drop, length-take, take-append-drop}
use Rattle.std.proofs.Math.Seq.{take-add}
use Rattle.iso_parts.specs.Digits.{four_digits_of, four_digits_in}
use Rattle.iso_parts.specs.Bitmap.{in_words, primary_bits, Bitmaps}
use Rattle.iso_parts.specs.declared.bitmap.BitmapCoding.{BitmapCoding}
use Rattle.iso_parts.specs.MapLaws.{MapLaws}
use Rattle.iso_parts.specs.PartLaws.{PartLaws}
use Rattle.iso_wire.specs.declared.fault.UnpackCause.TheVariants.{Short, WrongVersion}
use Rattle.iso_wire.specs.Contents.{Contents}
use Rattle.iso_wire.specs.Elements.{has, IsAscending}
use Rattle.iso_table.specs.Layout.{Layout, AreGood}
use Rattle.iso_parts.specs.Numbers.{numbers_in}
use Rattle.iso_wire.specs.Spelling.{AreBytes, BeginsWith, Spelling}
use Rattle.iso_parts.specs.Mti.{mti_size}
use Rattle.iso_wire.specs.Reading.{◌>>=◌, halt, of_version, type_at, words_at, elements_at, message_at, whole}
use Rattle.iso_wire.specs.ReadingLaws.{ReadsSpellings}
use Rattle.iso_wire.proofs.Bytes.{bytes_take, bytes_drop}
use Rattle.iso_wire.proofs.Orders.{numbers_of, Values}
use Rattle.iso_wire.proofs.ElementLaws.{elements_again, elements_taken, has_row, bind_ok, ok_is}
use Rattle.iso_wire.proofs.Sets.{numbers_from_set, made_from_set, has_after}
use Rattle.iso_wire.proofs.Types.{length-four_digits_of, mti_again, mti_takes}
use Rattle.iso_wire.proofs.WordLaws.{bits_agree, short_or, words_again, words_taken}

no_65 : (low : ℕ) (es : Values) → IsAscending low es → has es 65 ≡ false
no_65 low [] asc = refl
no_65 low (e ∷ es) asc = has_after e es 65 asc.2 ∙ no_65 (e.0 + 1) es asc.3

-- ---- what is spelled is read

pub type_again : (t : Layout) (n : ℕ) (rest : List ℕ) → n < 10000 → n / 1000 ≡ t.version → type_at t (four_digits_of t.mti n ++ rest) ≡ Ok n
type_again t n rest small version =
    let front : List ℕ = four_digits_of t.mti n in
    let size = mti_size t.mti in
    let len = length-four_digits_of t.mti n in
    let long : ltb (length (front ++ rest)) size ≡ false = le-ltb (length (front ++ rest)) size (omega (arith, length-append front rest)) in
    let same : eqb (n / 1000) t.version ≡ true = grind (arith, nat_tests) in
    cond-false (ltb (length (front ++ rest)) size) (halt 0 0 Short) (of_version t.version (four_digits_in t.mti (take size (front ++ rest)))) long
    ∙ ap (λ (l : List ℕ). of_version t.version (four_digits_in t.mti l)) (take_at front rest size len)
    ∙ ap (of_version t.version) (mti_again t.mti n small)
    ∙ cond-true (eqb (n / 1000) t.version) (Ok n) (halt 0 0 WrongVersion) same

-- the three readings, one after another
joined : (t : Layout) (b : List ℕ) (mti first second used : ℕ) (es : Values) (end : ℕ) → type_at t b ≡ Ok mti → words_at t (mti_size t.mti) (drop (mti_size t.mti) b) ≡ Ok (first, second, used)
    → elements_at t.rows (numbers_in first second) (mti_size t.mti + used) (drop (mti_size t.mti + used) b) ≡ Ok (es, end) → message_at t b ≡ whole (record { mti = mti; elements = es }) end
unfolding message_at
joined t b mti first second used es end one two three = rw (one, two, three) refl

module _ (part_laws : PartLaws) (map_laws : MapLaws) where
  pub spelling_again : (t : Layout) (m : Contents) (p rest : List ℕ) → AreGood t.rows → AreBytes (p ++ rest) → Spelling t m p → message_at t (p ++ rest) ≡ whole m (length p)
  spelling_again t m p rest good fits s =
      let front : List ℕ = four_digits_of t.mti m.mti in
      let size = mti_size t.mti in
      let len : length front ≡ size = length-four_digits_of t.mti m.mti in
      let b : List ℕ = p ++ rest in
      let es : Values = m.elements in
      let split : b ≡ front ++ (s.maps ++ (s.parts ++ rest)) = ap (λ (l : List ℕ). l ++ rest) s.bytes ∙ append_assoc front (s.maps ++ s.parts) rest ∙ ap (λ (l : List ℕ). front ++ l) (append_assoc s.maps s.parts rest) in
      let after : drop size b ≡ s.maps ++ (s.parts ++ rest) = ap (drop size) split ∙ drop_at front (s.maps ++ (s.parts ++ rest)) size len in
      let maps_bytes : AreBytes s.maps = λ i. rw (sym (ap (take (length s.maps)) after ∙ take_at s.maps (s.parts ++ rest) (length s.maps) refl)) (bytes_take (length s.maps) (drop size b) (bytes_drop size b fits) i) in
      let read = words_again map_laws t s.secondary (has es) size s.maps (s.parts ++ rest) maps_bytes (no_65 2 es s.ascending) (λ k. has_row t.rows es s.parts k s.elements) s.bitmaps in
      let used = length s.maps in
      let one : type_at t b ≡ Ok m.mti = ap (type_at t) split ∙ type_again t m.mti (s.maps ++ (s.parts ++ rest)) s.mti s.version in
      let two : words_at t size (drop size b) ≡ Ok (read.primary, read.secondary, used) = ap (words_at t size) after ∙ read.read in
      let set = in_words read.primary read.secondary in
      let behind : drop (size + used) b ≡ s.parts ++ rest = sym (drop-drop used size b) ∙ ap (drop used) after ∙ drop_at s.maps (s.parts ++ rest) used refl in
      let three : elements_at t.rows (numbers_in read.primary read.secondary) (size + used) (drop (size + used) b) ≡ Ok (es, (size + used) + length s.parts) =
      ap (λ (ns : List ℕ). elements_at t.rows ns (size + used) (drop (size + used) b)) (sym (numbers_from_set set es s.ascending read.agrees))
      ∙ ap (elements_at t.rows (numbers_of es) (size + used)) behind ∙ elements_again part_laws t.rows (size + used) es s.parts rest good s.elements in
      let end : (size + used) + length s.parts ≡ length p = sym (ap length s.bytes ∙ length-append front (s.maps ++ s.parts) ∙ omega (arith, length-append s.maps s.parts)) in
      joined t b m.mti read.primary read.secondary used es ((size + used) + length s.parts) one two three ∙ ap (whole m) end

-- ---- what is read is spelled so

pub version_or : (version : ℕ) (o : Option ℕ) (n : ℕ) → of_version version o ≡ Ok n → (o ≡ Some n) × (n / 1000 ≡ version)
version_or version None n e = absurd cc
version_or version (Some k) n e = version_by (eqb (k / 1000) version) version k n refl e
  where
    version_by : (c : Bool) (version k n : ℕ) → eqb (k / 1000) version ≡ c → cond c (Ok k) (halt 0 0 WrongVersion) ≡ Ok n → (Some k ≡ Some n) × (n / 1000 ≡ version)
    version_by false version k n is e = absurd cc
    version_by true version k n is e = let same : k ≡ n = cc in (ap Some same, ap (λ (x : ℕ). x / 1000) (sym same) ∙ eqb-true (k / 1000) version is)

first_agrees : (two : Bool) (set other : ℕ → Bool) → ((k : ℕ) → 2 ≤ k → k ≤ 128 → other k ≡ set k) → (k : ℕ) → 0 < k → k ≤ 64 → primary_bits two set k ≡ primary_bits two other k
first_agrees two set other agrees k low high =
    elim (cases_eq k 1) [
      | inl e ↦ rw e refl
      | inr ne ↦ let h = agrees k (omega arith) (omega arith) in grind (arith, nat_tests)
    ]

-- bitmaps of one set are bitmaps of another with the same elements
pub maps_agree : (c : BitmapCoding) (two : Bool) (set other : ℕ → Bool) (b : List ℕ) → ((k : ℕ) → 2 ≤ k → k ≤ 128 → other k ≡ set k) → Bitmaps c two set b → Bitmaps c two other b
maps_agree c true set other b agrees maps = record {
  primary = bits_agree c _ _ _ (first_agrees true set other agrees) maps.primary;
  secondary = bits_agree c _ _ _ (λ k low high. sym (agrees (64 + k) (omega arith) (omega arith))) maps.secondary;
}
maps_agree c false set other b agrees maps = record {
  primary = bits_agree c _ _ b (first_agrees false set other agrees) maps.primary;
  none = λ k low high. agrees k (omega arith) high ∙ maps.none k low high;
}

parted : (t : Layout) (b : List ℕ) (m : Contents) (n : ℕ) → message_at t b ≡ whole m n
    → (type_at t b >>= λ mti. words_at t (mti_size t.mti) (drop (mti_size t.mti) b) >>= λ words. elements_at t.rows (numbers_in words.0 words.1) (mti_size t.mti + words.2) (drop (mti_size t.mti + words.2) b) >>= λ read. whole (record { mti = mti; elements = read.0 }) read.1) ≡ whole m n
unfolding message_at
parted t b m n e = e

module _ (part_laws : PartLaws) (map_laws : MapLaws) where
  pub spelling_taken : (t : Layout) (b : List ℕ) (m : Contents) (n : ℕ) → AreGood t.rows → AreBytes b → message_at t b ≡ whole m n → BeginsWith t m n b
  spelling_taken t b m n good fits e =
      let size = mti_size t.mti in
      let rest : List ℕ = drop size b in
      let behind = λ (mti : ℕ). λ (words : ℕ × ℕ × ℕ). elements_at t.rows (numbers_in words.0 words.1) (size + words.2) (drop (size + words.2) b) >>= λ read. whole (record { mti = mti; elements = read.0 }) read.1 in
      let one = bind_ok (type_at t b) (λ mti. words_at t size rest >>= behind mti) (m, n) (parted t b m n e) in
      let mti : ℕ = one.0 in
      let two = bind_ok (words_at t size rest) (behind mti) (m, n) one.2 in
      let words : ℕ × ℕ × ℕ = two.0 in
      let set = in_words words.0 words.1 in
      let three = bind_ok (elements_at t.rows (numbers_in words.0 words.1) (size + words.2) (drop (size + words.2) b)) (λ read. whole (record { mti = mti; elements = read.0 }) read.1) (m, n) two.2 in
      let es : Values = three.0.0 in
      let made = ok_is (record { mti = mti; elements = es }, three.0.1) (m, n) three.2 in
      let typed = short_or (ltb (length b) size) 0 0 (of_version t.version (four_digits_in t.mti (take size b))) mti one.1 in
      let front_room : size ≤ length b = ltb-false (length b) size typed.0 in
      let version = version_or t.version (four_digits_in t.mti (take size b)) mti typed.1 in
      let type = mti_takes t.mti mti (take size b) (bytes_take size b fits) version.0 in
      let mapped = words_taken map_laws t size rest words (bytes_drop size b fits) two.1 in
      let place : drop (size + words.2) b ≡ drop words.2 rest = sym (drop-drop words.2 size b) in
      let taken = elements_taken part_laws t.rows (numbers_in words.0 words.1) (size + words.2) (drop words.2 rest) es three.0.1 good (bytes_drop words.2 rest (bytes_drop size b fits)) (ap (elements_at t.rows (numbers_in words.0 words.1) (size + words.2)) (sym place) ∙ three.1) in
      let ordered = made_from_set set es mapped.no_65 taken.numbers in
      let inner : words.2 + taken.used ≤ length rest = omega (arith, mapped.room, taken.room, length-drop words.2 rest) in
      let all : size + (words.2 + taken.used) ≤ length b = omega (arith, length-drop size b) in
      let end : three.0.1 ≡ size + (words.2 + taken.used) = omega (arith, taken.offset) in
      let split : take three.0.1 b ≡ four_digits_of t.mti mti ++ (take words.2 rest ++ take taken.used (drop words.2 rest)) =
      ap (λ (k : ℕ). take k b) end ∙ take-add size (words.2 + taken.used) b ∙ ap (λ (l : List ℕ). l ++ take (words.2 + taken.used) rest) type.bytes ∙ ap (λ (l : List ℕ). four_digits_of t.mti mti ++ l) (take-add words.2 taken.used rest) in
      let spelled : Spelling t (record { mti = mti; elements = es }) (take three.0.1 b) = record {
        mti = type.small;
        version = version.1;
        ascending = ordered.ascending;
        secondary = mapped.two;
        maps = take words.2 rest;
        parts = take taken.used (drop words.2 rest);
        bitmaps = maps_agree t.bitmap mapped.two set (has es) (take words.2 rest) ordered.agrees mapped.maps;
        elements = taken.parts;
        bytes = split;
      } in
      subst (λ (x : Contents × ℕ). BeginsWith t x.0 x.1 b) made (omega arith, spelled)

  pub reads_spellings : ReadsSpellings
  reads_spellings t m n b good bytes = (
    spelling_taken t b m n good bytes,
    (λ begins.
        let split = take-append-drop n b in
        let size : length (take n b) ≡ n = omega (arith, begins.0, length-take n b) in
        ap (message_at t) (sym split) ∙ spelling_again part_laws map_laws t m (take n b) (drop n b) good (subst AreBytes (sym split) bytes) begins.1 ∙ ap (whole m) size),
  )
