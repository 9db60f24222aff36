-- The type, a bitmap or a length that is judged is passed, or stops the bytes.
use Rattle.std.proofs.Common.{◌≡◌, ℕ, ◌+◌, ◌≤◌, true, ltb, List, [], ◌∷◌, length, take, drop, Some, None, Ok, Err, refl, sym, ap, subst, ◌∙◌, arith}
use Rattle.std.proofs.lemmas.Bool.{cond-true, cond-false, ltb-true, ltb-false, lt-ltb, le-ltb}
use Rattle.std.proofs.lemmas.List.{drop-drop, length-take}
use Rattle.iso_parts.specs.Bitmap.{map_size, in_words}
use Rattle.iso_parts.specs.BitmapReading.{top}
use Rattle.iso_parts.specs.Judging.{count_at}
use Rattle.iso_parts.specs.MapLaws.{MapLaws}
use Rattle.iso_parts.specs.Mti.{mti_size}
use Rattle.iso_parts.specs.Numbers.{numbers_in}
use Rattle.iso_parts.specs.PieceLaws.{PieceLaws}
use Rattle.iso_parts.specs.Reading.{prefix_size, prefix_of}
use Rattle.iso_parts.specs.Spec.{IsGood}
use Rattle.iso_parts.specs.declared.bitmap.Bitmap.{Bitmap}
use Rattle.iso_parts.specs.declared.fault.FieldFault.{FieldFault}
use Rattle.iso_parts.specs.declared.spec.FieldSpec.{FieldSpec}
use Rattle.iso_parts.specs.Numbers.{members}
use Rattle.iso_table.specs.Layout.{Layout, row_at}
use Rattle.iso_wire.specs.Reading.{◌>>=◌, type_at, primary_at, secondary_at, words_by, words_at}
use Rattle.iso_wire.specs.Spelling.{AreBytes}
use Rattle.iso_wire.specs.Stops.{Piece, type, primary, secondary, count}
use Rattle.iso_wire.specs.Walking.{IsFront, IsBehindPrimary, Passes}
use Rattle.iso_wire.specs.declared.fault.UnpackCause.TheVariants as causes
use Rattle.iso_wire.specs.declared.fault.UnpackFault.{UnpackFault}
use Rattle.iso_wire.specs.declared.judging.ResumePoint.{ResumePoint}
use Rattle.iso_wire.specs.declared.judging.ResumePoint.TheVariants as points
use Rattle.iso_wire.proofs.Bytes.{bytes_take, bytes_drop}
use Rattle.iso_wire.proofs.StopsMaps.{fault_at, HaltsAs, type_halts, primary_halts, secondary_halts}
use Rattle.iso_wire.proofs.Wires.{Ascends, numbers_ascend}
use Rattle.iso_wire.proofs.Readings.{words, count_fails, lacks_by}
use Rattle.iso_wire.proofs.WalkPlaces.{front_ascends, fewer, fewer_body}

pub halts_as : (t : Layout) (b : List ℕ) (piece : Piece) (at : ℕ) (e : UnpackFault) → HaltsAs t piece at (drop at b) e → Passes t b piece at (Err e)
halts_as t b piece at e h = subst (λ (e : UnpackFault). Passes t b piece at (Err e)) h.1 (refl, refl, h.2)

pub type_passes : (t : Layout) (b : List ℕ) (mti : ℕ) → type_at t b ≡ Ok mti → Passes t b type 0 (Ok points.Primary)
type_passes t b mti read = ((mti, read), omega arith, omega arith)

pub type_fails : (t : Layout) (b : List ℕ) (e : UnpackFault) → AreBytes b → type_at t b ≡ Err e → Passes t b type 0 (Err e)
type_fails t b e bytes read = halts_as t b type 0 e (type_halts t b e bytes read)

-- the elements begin behind the bitmaps
front_of_maps : (t : Layout) (b : List ℕ) (mti : ℕ) (w : ℕ × ℕ × ℕ) (ns : List ℕ) (at : ℕ) → type_at t b ≡ Ok mti → words_at t (mti_size t.mti) (drop (mti_size t.mti) b) ≡ Ok w → ns ≡ numbers_in w.0 w.1 → at ≡ mti_size t.mti + w.2 → IsFront t ns at b
front_of_maps t b mti w ns at typed mapped is place = record {
  mti = mti;
  words = w;
  earlier = [];
  used = 0;
  typed = typed;
  mapped = mapped;
  numbers = sym is;
  place = omega (arith, place);
  room = omega arith;
  parts = refl;
}

pub one_map_passes : (t : Layout) (b : List ℕ) (mti first : ℕ) (rest : Bitmap) (at : ℕ) → type_at t b ≡ Ok mti → primary_at t (mti_size t.mti) (drop (mti_size t.mti) b) ≡ Ok first → ltb first top ≡ true → members rest ≡ numbers_in first 0 → at ≡ mti_size t.mti + map_size t.bitmap
    → Passes t b primary (mti_size t.mti) (Ok (points.Elements rest at))
one_map_passes t b mti first rest at typed read low is place =
    let size = mti_size t.mti in
    let n = map_size t.bitmap in
    let behind : List ℕ = drop size b in
    let mapped : words_at t size behind ≡ Ok (first, 0, n) =
    ap (λ r. r >>= words_by t size behind) read
    ∙ cond-true (ltb first top) (words first 0 n) (secondary_at t (size + n) (drop n behind) >>= λ second. words first second (n + n)) low in (
      front_of_maps t b mti (first, 0, n) (members rest) at typed mapped is place,
      place,
      fewer t.rows 2 1 (members rest) (subst (Ascends 2) (sym is) (numbers_ascend (in_words first 0) 127 2 (omega arith))) (omega arith) (omega arith),
    )

pub first_map_passes : (t : Layout) (b : List ℕ) (mti first : ℕ) → type_at t b ≡ Ok mti → primary_at t (mti_size t.mti) (drop (mti_size t.mti) b) ≡ Ok first → top ≤ first → Passes t b primary (mti_size t.mti) (Ok (points.Secondary first))
first_map_passes t b mti first typed read large = ((mti, typed, read, large), refl, omega arith)

pub primary_passes : (t : Layout) (b : List ℕ) (mti first : ℕ) (after : ResumePoint) → type_at t b ≡ Ok mti → primary_at t (mti_size t.mti) (drop (mti_size t.mti) b) ≡ Ok first → IsBehindPrimary t first (mti_size t.mti) after → Passes t b primary (mti_size t.mti) (Ok after)
primary_passes t b mti first points.Type typed read h = absurd h
primary_passes t b mti first points.Primary typed read h = absurd h
primary_passes t b mti first (points.Secondary w) typed read h = subst (λ (w : ℕ). Passes t b primary (mti_size t.mti) (Ok (points.Secondary w))) (sym h.0) (first_map_passes t b mti first typed read h.1)
primary_passes t b mti first (points.Elements rest at) typed read h = one_map_passes t b mti first rest at typed read (lt-ltb first top h.0) h.1 h.2
primary_passes t b mti first (points.Body n c rest at) typed read h = absurd h

pub primary_fails : MapLaws → (t : Layout) (b : List ℕ) (e : UnpackFault) → AreBytes b → primary_at t (mti_size t.mti) (drop (mti_size t.mti) b) ≡ Err e → Passes t b primary (mti_size t.mti) (Err e)
primary_fails laws t b e bytes read =
    let size = mti_size t.mti in
    halts_as t b primary size e (primary_halts laws t size (drop size b) e (bytes_drop size b bytes) read)

pub second_map_passes : (t : Layout) (b : List ℕ) (mti first second : ℕ) (rest : Bitmap) (at : ℕ) → type_at t b ≡ Ok mti → primary_at t (mti_size t.mti) (drop (mti_size t.mti) b) ≡ Ok first → top ≤ first
    → secondary_at t (mti_size t.mti + map_size t.bitmap) (drop (map_size t.bitmap) (drop (mti_size t.mti) b)) ≡ Ok second → members rest ≡ numbers_in first second → at ≡ mti_size t.mti + (map_size t.bitmap + map_size t.bitmap)
    → Passes t b secondary (mti_size t.mti + map_size t.bitmap) (Ok (points.Elements rest at))
second_map_passes t b mti first second rest at typed read large other is place =
    let size = mti_size t.mti in
    let n = map_size t.bitmap in
    let behind : List ℕ = drop size b in
    let mapped : words_at t size behind ≡ Ok (first, second, n + n) =
    ap (λ r. r >>= words_by t size behind) read
    ∙ cond-false (ltb first top) (words first 0 n) (secondary_at t (size + n) (drop n behind) >>= λ second. words first second (n + n)) (le-ltb first top large)
    ∙ ap (λ r. r >>= λ second. words first second (n + n)) other in (
      front_of_maps t b mti (first, second, n + n) (members rest) at typed mapped is place,
      omega (arith, place),
      fewer t.rows 2 2 (members rest) (subst (Ascends 2) (sym is) (numbers_ascend (in_words first second) 127 2 (omega arith))) (omega arith) (omega arith),
    )

pub secondary_fails : MapLaws → (t : Layout) (b : List ℕ) (e : UnpackFault) → AreBytes b → secondary_at t (mti_size t.mti + map_size t.bitmap) (drop (map_size t.bitmap) (drop (mti_size t.mti) b)) ≡ Err e → Passes t b secondary (mti_size t.mti + map_size t.bitmap) (Err e)
secondary_fails laws t b e bytes read =
    let size = mti_size t.mti in
    let n = map_size t.bitmap in
    let place : drop n (drop size b) ≡ drop (size + n) b = drop-drop n size b in
    halts_as t b secondary (size + n) e (subst (λ (l : List ℕ). HaltsAs t secondary (size + n) l e) place (secondary_halts laws t (size + n) (drop n (drop size b)) e (bytes_drop n (drop size b) (bytes_drop size b bytes)) read))

pub length_passes : (t : Layout) (b : List ℕ) (n c : ℕ) (s : FieldSpec) (rest : Bitmap) (at end : ℕ) → IsFront t (n ∷ members rest) at b → row_at t.rows n ≡ Some s → count_at s (drop at b) ≡ Ok (Some c) → c ≤ s.max → end ≡ at + prefix_size s.length
    → Passes t b (count n s) at (Ok (points.Body n c rest end))
length_passes t b n c s rest at end front row read most place =
    let few = (front_ascends t n (members rest) at b front).1 in
    (record { row = s; start = at; is = row; front = front; told = read; most = most; place = place }, place, fewer_body n c (row_at t.rows n) few)

pub length_lacks : (t : Layout) (b : List ℕ) (n : ℕ) (s : FieldSpec) (at : ℕ) → count_at s (drop at b) ≡ Ok None → Passes t b (count n s) at (Err (fault_at n at causes.Short))
length_lacks t b n s at read =
    let rest : List ℕ = drop at b in
    let front = prefix_size s.length in
    (refl, refl, ltb-true (length rest) front (lacks_by (ltb (length rest) front) (prefix_of s (take front rest)) read))

pub length_fails : PieceLaws → (t : Layout) (b : List ℕ) (n : ℕ) (s : FieldSpec) (at : ℕ) (f : FieldFault) → IsGood s → AreBytes b → count_at s (drop at b) ≡ Err f → Passes t b (count n s) at (Err (fault_at n at (causes.Field f)))
length_fails laws t b n s at f good bytes read =
    let rest : List ℕ = drop at b in
    let front = prefix_size s.length in
    let p : List ℕ = take front rest in
    let bad = count_fails (ltb (length rest) front) (prefix_of s p) f read in
    let room : front ≤ length rest = ltb-false (length rest) front bad.0 in
    (refl, refl, (room, (laws.bad_count s f p good (bytes_take front rest (bytes_drop at b bytes)) (omega (arith, length-take front rest))).0 bad.1))
