-- A fault other than a missing byte stays, whatever follows.
use Rattle.std.proofs.Common.{◌≡◌, ℕ, ◌+◌, ◌≤◌, Bool, true, false, cond, ltb, List, [], ◌∷◌, ◌++◌, length, take, drop, Option, Some, None, Result, Ok, Err, refl, sym, ap, subst, ◌∙◌, arith}
use Rattle.std.proofs.lemmas.Bool.{ltb-false, le-ltb, cond-false}
use Rattle.std.proofs.lemmas.List.{length-append, length-drop, take-append-le, drop-append-le}
use Rattle.iso_parts.specs.Digits.{four_digits_in}
use Rattle.iso_parts.specs.declared.bitmap.BitmapCoding.{BitmapCoding}
use Rattle.iso_parts.specs.declared.spec.FieldSpec.{FieldSpec}
use Rattle.iso_parts.specs.Bitmap.{map_size}
use Rattle.iso_parts.specs.BitmapReading.{word_in, top}
use Rattle.iso_parts.specs.Reading.{FieldReading, got, more, fault, part_at}
use Rattle.iso_parts.specs.MapLaws.{MapLaws}
use Rattle.iso_parts.specs.PartLaws.{PartLaws, IsMore}
use Rattle.iso_wire.specs.declared.fault.UnpackFault.{UnpackFault}
use Rattle.iso_wire.specs.declared.fault.UnpackCause.TheVariants.{Short}
use Rattle.iso_table.specs.Layout.{Layout, row_at, AreGood}
use Rattle.iso_parts.specs.Numbers.{numbers_in}
use Rattle.iso_wire.specs.Numbers.{unknown}
use Rattle.iso_wire.specs.Spelling.{AreBytes}
use Rattle.iso_parts.specs.Mti.{mti_size}
use Rattle.iso_wire.specs.Reading.{◌>>=◌, halt, of_version, type_at, word_by, word_at, known_by, primary_at, secondary_known, secondary_at, words_by, words_at, answer, value_by, value_at, elements_at, message_at, whole}
use Rattle.iso_wire.specs.ReadingLaws.{IsShort, ReadingStays}
use Rattle.iso_wire.proofs.Bytes.{bytes_drop}
use Rattle.iso_wire.proofs.ElementLaws.{bind_ok, value_taken}
use Rattle.iso_wire.proofs.Orders.{Values}
use Rattle.iso_wire.proofs.WordLaws.{short_or, words_taken}

-- what is read of more bytes is the same, unless they end inside a piece
abbrev pub Stays : {A : Type 0} → Result A UnpackFault → Result A UnpackFault → Type 0
Stays old new = (IsShort old → ⊥) → new ≡ old

stays_bind : {A B : Type 0} (r r' : Result A UnpackFault) (f g : A → Result B UnpackFault) → Stays r r' → ((x : A) → r ≡ Ok x → Stays (f x) (g x)) → Stays (r >>= f) (r' >>= g)
stays_bind (Ok x) r' f g one two = λ long. ap (λ q. q >>= g) (one (λ h. h)) ∙ two x refl long
stays_bind (Err e) r' f g one two = λ long. ap (λ q. q >>= g) (one long)

-- a piece is judged alike once it is whole
piece_by : {A : Type 0} (t : Bool) (n element at : ℕ) (b x : List ℕ) (r r' : Result A UnpackFault) → ltb (length b) n ≡ t → (n ≤ length b → Stays r r') → Stays (cond t (halt element at Short) r) (cond (ltb (length (b ++ x)) n) (halt element at Short) r')
piece_by true n element at b x r r' is h = λ long. absurd (long refl)
piece_by false n element at b x r r' is h =
    let room : n ≤ length b = ltb-false (length b) n is in
    λ long. cond-false (ltb (length (b ++ x)) n) (halt element at Short) r' (le-ltb (length (b ++ x)) n (omega (arith, length-append b x))) ∙ h room long

pub type_stays : (t : Layout) (b x : List ℕ) → Stays (type_at t b) (type_at t (b ++ x))
type_stays t b x =
    let size = mti_size t.mti in
    piece_by (ltb (length b) size) size 0 0 b x (of_version t.version (four_digits_in t.mti (take size b))) (of_version t.version (four_digits_in t.mti (take size (b ++ x)))) refl (λ room long. ap (λ (l : List ℕ). of_version t.version (four_digits_in t.mti l)) (take-append-le size b x room))

word_stays : (c : BitmapCoding) (element at : ℕ) (b x : List ℕ) → Stays (word_at c element at b) (word_at c element at (b ++ x))
word_stays c element at b x =
    let size = map_size c in
    piece_by (ltb (length b) size) size element at b x (word_by element at (word_in c (take size b))) (word_by element at (word_in c (take size (b ++ x)))) refl (λ room long. ap (λ (l : List ℕ). word_by element at (word_in c l)) (take-append-le size b x room))

pub primary_stays : (t : Layout) (at : ℕ) (b x : List ℕ) → Stays (primary_at t at b) (primary_at t at (b ++ x))
primary_stays t at b x =
    let f = λ (w : ℕ). known_by 0 at w (unknown t.rows (numbers_in w 0)) in
    stays_bind (word_at t.bitmap 0 at b) (word_at t.bitmap 0 at (b ++ x)) f f (word_stays t.bitmap 0 at b x) (λ w e long. refl)

pub secondary_stays : (t : Layout) (at : ℕ) (b x : List ℕ) → Stays (secondary_at t at b) (secondary_at t at (b ++ x))
secondary_stays t at b x = stays_bind (word_at t.bitmap 1 at b) (word_at t.bitmap 1 at (b ++ x)) (secondary_known t at) (secondary_known t at) (word_stays t.bitmap 1 at b x) (λ w e long. refl)

primary_room : (t : Layout) (at : ℕ) (b : List ℕ) (w : ℕ) → primary_at t at b ≡ Ok w → map_size t.bitmap ≤ length b
primary_room t at b w e =
    let one = bind_ok (word_at t.bitmap 0 at b) (λ w. known_by 0 at w (unknown t.rows (numbers_in w 0))) w e in
    let size = map_size t.bitmap in
    ltb-false (length b) size (short_or (ltb (length b) size) 0 at (word_by 0 at (word_in t.bitmap (take size b))) one.0 one.1).0

abbrev words : ℕ → ℕ → ℕ → Result (ℕ × ℕ × ℕ) UnpackFault
words w v size = Ok (w, v, size)

words_by_stays : (is : Bool) (t : Layout) (at w : ℕ) (b x : List ℕ) → map_size t.bitmap ≤ length b
    → Stays (cond is (words w 0 (map_size t.bitmap)) (secondary_at t (at + map_size t.bitmap) (drop (map_size t.bitmap) b) >>= λ v. words w v (map_size t.bitmap + map_size t.bitmap)))
    (cond is (words w 0 (map_size t.bitmap)) (secondary_at t (at + map_size t.bitmap) (drop (map_size t.bitmap) (b ++ x)) >>= λ v. words w v (map_size t.bitmap + map_size t.bitmap)))
words_by_stays true t at w b x room = λ long. refl
words_by_stays false t at w b x room =
    let n = map_size t.bitmap in
    let f = λ (v : ℕ). words w v (n + n) in
    stays_bind (secondary_at t (at + n) (drop n b)) (secondary_at t (at + n) (drop n (b ++ x))) f f
    (subst (λ (l : List ℕ). Stays (secondary_at t (at + n) (drop n b)) (secondary_at t (at + n) l)) (sym (drop-append-le n b x room)) (secondary_stays t (at + n) (drop n b) x))
    (λ v e long. refl)

words_stays : (t : Layout) (at : ℕ) (b x : List ℕ) → Stays (words_at t at b) (words_at t at (b ++ x))
words_stays t at b x = stays_bind (primary_at t at b) (primary_at t at (b ++ x)) (words_by t at b) (words_by t at (b ++ x)) (primary_stays t at b x) (λ w e. words_by_stays (ltb w top) t at w b x (primary_room t at b w e))

answer_stays : (s : FieldSpec) (n at len len' : ℕ) (o o' : FieldReading) → ((IsMore o → ⊥) → o' ≡ o) → Stays (answer s n at len o) (answer s n at len' o')
answer_stays s n at len len' (got v used) o' h = λ long. ap (answer s n at len') (h (λ m. m))
answer_stays s n at len len' more o' h = λ long. absurd (long refl)
answer_stays s n at len len' (fault e) o' h = λ long. ap (answer s n at len') (h (λ m. m))

abbrev entries : Values × ℕ → Result (Values × ℕ) UnpackFault
entries x = Ok x

type_room : (t : Layout) (b : List ℕ) (n : ℕ) → type_at t b ≡ Ok n → mti_size t.mti ≤ length b
type_room t b n e =
    let size = mti_size t.mti in
    ltb-false (length b) size (short_or (ltb (length b) size) 0 0 (of_version t.version (four_digits_in t.mti (take size b))) n e).0

module _ (part_laws : PartLaws) (map_laws : MapLaws) where
  value_stays : (r : Option FieldSpec) (n at : ℕ) (b x : List ℕ) → Stays (value_by r n at b) (value_by r n at (b ++ x))
  value_stays None n at b x = λ long. refl
  value_stays (Some s) n at b x = answer_stays s n at (length b) (length (b ++ x)) (part_at s b) (part_at s (b ++ x)) (part_laws.stays s b x)

  elements_stay : (rows : List (Option FieldSpec)) (ns : List ℕ) (at : ℕ) (b x : List ℕ) → AreGood rows → AreBytes b → Stays (elements_at rows ns at b) (elements_at rows ns at (b ++ x))
  elements_stay rows [] at b x good fits = λ long. refl
  elements_stay rows (n ∷ ns) at b x good fits =
      let rest = λ (l : List ℕ). λ (first : List ℕ × ℕ). elements_at rows ns (at + first.1) (drop first.1 l) >>= λ others. entries ((n, first.0) ∷ others.0, others.1) in
      stays_bind (value_at rows n at b) (value_at rows n at (b ++ x)) (rest b) (rest (b ++ x)) (value_stays (row_at rows n) n at b x) (λ first e.
      let f = λ (others : Values × ℕ). entries ((n, first.0) ∷ others.0, others.1) in
      let room = (value_taken part_laws rows n at b first.0 first.1 good fits e).room in
      stays_bind (elements_at rows ns (at + first.1) (drop first.1 b)) (elements_at rows ns (at + first.1) (drop first.1 (b ++ x))) f f
      (subst (λ (l : List ℕ). Stays (elements_at rows ns (at + first.1) (drop first.1 b)) (elements_at rows ns (at + first.1) l)) (sym (drop-append-le first.1 b x room)) (elements_stay rows ns (at + first.1) (drop first.1 b) x good (bytes_drop first.1 b fits)))
      (λ others e long. refl))

  pub reading_stays : ReadingStays
  unfolding message_at
  reading_stays t b x good fits =
      let size = mti_size t.mti in
      let elements = λ (l : List ℕ). λ (mti : ℕ). λ (w : ℕ × ℕ × ℕ). elements_at t.rows (numbers_in w.0 w.1) (size + w.2) (drop (size + w.2) l) >>= λ read. whole (record { mti = mti; elements = read.0 }) read.1 in
      let behind = λ (l : List ℕ). λ (mti : ℕ). words_at t size (drop size l) >>= elements l mti in
      stays_bind (type_at t b) (type_at t (b ++ x)) (behind b) (behind (b ++ x)) (type_stays t b x) (λ mti e.
      let room = type_room t b mti e in
      stays_bind (words_at t size (drop size b)) (words_at t size (drop size (b ++ x))) (elements b mti) (elements (b ++ x) mti)
      (subst (λ (l : List ℕ). Stays (words_at t size (drop size b)) (words_at t size l)) (sym (drop-append-le size b x room)) (words_stays t size (drop size b) x))
      (λ w e.
      let f = λ (read : Values × ℕ). whole (record { mti = mti; elements = read.0 }) read.1 in
      let taken = words_taken map_laws t size (drop size b) w (bytes_drop size b fits) e in
      let n = size + w.2 in
      let inside : n ≤ length b = omega (arith, taken.room, length-drop size b) in
      stays_bind (elements_at t.rows (numbers_in w.0 w.1) n (drop n b)) (elements_at t.rows (numbers_in w.0 w.1) n (drop n (b ++ x))) f f
      (subst (λ (l : List ℕ). Stays (elements_at t.rows (numbers_in w.0 w.1) n (drop n b)) (elements_at t.rows (numbers_in w.0 w.1) n l)) (sym (drop-append-le n b x inside)) (elements_stay t.rows (numbers_in w.0 w.1) n (drop n b) x good (bytes_drop n b fits)))
      (λ read e long. refl)))
