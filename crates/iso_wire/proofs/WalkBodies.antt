-- A body that is judged is passed, or stops the bytes.
use Rattle.std.proofs.Common.{◌≡◌, ℕ, ◌+◌, ◌*◌, ◌≤◌, ltb, List, [], ◌∷◌, ◌++◌, length, take, drop, Option, Some, None, Result, Ok, Err, refl, sym, ap, subst, ◌∙◌, append_assoc, arith}
use Rattle.std.proofs.lemmas.Bool.{cond-false, ltb-true, ltb-false, le-ltb}
use Rattle.std.proofs.lemmas.List.{drop-drop, length-drop, length-take, append-nil}
use Rattle.std.proofs.Math.Seq.{take-add}
use Rattle.iso_parts.specs.Judging.{count_at, size_at}
use Rattle.iso_parts.specs.Mti.{mti_size}
use Rattle.iso_parts.specs.PartLaws.{PartLaws}
use Rattle.iso_parts.specs.PieceLaws.{PieceLaws}
use Rattle.iso_parts.specs.Reading.{more, got, prefix_size, prefix_of, body_size, body_of, at_body, at_prefix, part_at}
use Rattle.iso_parts.specs.declared.bitmap.Bitmap.{Bitmap}
use Rattle.iso_parts.specs.declared.fault.FieldFault.{FieldFault}
use Rattle.iso_parts.specs.declared.spec.FieldSpec.{FieldSpec}
use Rattle.iso_parts.specs.Numbers.{members}
use Rattle.iso_table.specs.Layout.{Layout, row_at, AreGood}
use Rattle.iso_wire.specs.Judging.{end_by, body_end}
use Rattle.iso_wire.specs.Reading.{answer, value_by, value_at}
use Rattle.iso_wire.specs.Spelling.{AreBytes, PartAs, Parts}
use Rattle.iso_wire.specs.Stops.{body}
use Rattle.iso_wire.specs.Walking.{IsFront, next_body, IsCounted, Passes}
use Rattle.iso_wire.specs.declared.fault.UnpackCause.TheVariants as causes
use Rattle.iso_wire.specs.declared.fault.UnpackFault.{UnpackFault}
use Rattle.iso_wire.specs.declared.judging.ResumePoint.TheVariants as points
use Rattle.iso_wire.proofs.Bytes.{bytes_drop}
use Rattle.iso_wire.proofs.ElementLaws.{value_taken}
use Rattle.iso_wire.proofs.Orders.{numbers_of, Values}
use Rattle.iso_wire.proofs.StopsMaps.{fault_is, HaltsAs}
use Rattle.iso_wire.proofs.Readings.{count_is, end_is, size_read, short_by, bad_by, SizeRead}
use Rattle.iso_wire.proofs.WalkPlaces.{front_ascends, fewer}
use Rattle.iso_wire.proofs.WalkFronts.{halts_as}

parts_push : (rows : List (Option FieldSpec)) (es : Values) (a : List ℕ) (n : ℕ) (v p : List ℕ) → Parts rows es a → PartAs rows n v p → Parts rows (es ++ (n, v) ∷ []) (a ++ p)
parts_push rows [] a n v p parts part = (p, [], part, refl, ap (λ (l : List ℕ). l ++ p) parts ∙ sym (append-nil p))
parts_push rows (e ∷ es) a n v p parts part =
    (parts.0, parts.1 ++ p, parts.2, parts_push rows es parts.1 n v p parts.3 part, ap (λ (l : List ℕ). l ++ p) parts.4 ∙ append_assoc parts.0 parts.1 p)

numbers_push : (es : Values) (n : ℕ) (v : List ℕ) (ns : List ℕ) → numbers_of es ++ n ∷ ns ≡ numbers_of (es ++ (n, v) ∷ []) ++ ns
numbers_push [] n v ns = refl
numbers_push (e ∷ es) n v ns = ap (λ (l : List ℕ). e.0 ∷ l) (numbers_push es n v ns)

-- one more part was read
front_push : (t : Layout) (n : ℕ) (ns : List ℕ) (at used end : ℕ) (b v : List ℕ) → (front : IsFront t (n ∷ ns) at b) → used ≤ length (drop at b) → PartAs t.rows n v (take used (drop at b)) → end ≡ at + used → IsFront t ns end b
front_push t n ns at used end b v front room part place =
    let start = mti_size t.mti + front.words.2 in
    let rest : List ℕ = drop start b in
    let behind : drop at b ≡ drop front.used rest = ap (λ (k : ℕ). drop k b) front.place ∙ sym (drop-drop front.used start b) in
    let split : take (front.used + used) rest ≡ take front.used rest ++ take used (drop at b) = take-add front.used used rest ∙ ap (λ (l : List ℕ). take front.used rest ++ take used l) (sym behind) in
    let inside : used ≤ length (drop front.used rest) = omega (arith, room, ap length behind) in
    record {
      mti = front.mti;
      words = front.words;
      earlier = front.earlier ++ (n, v) ∷ [];
      used = front.used + used;
      typed = front.typed;
      mapped = front.mapped;
      numbers = front.numbers ∙ numbers_push front.earlier n v ns;
      place = omega (arith, place, front.place);
      room = omega (arith, front.room, inside, length-drop front.used rest);
      parts = subst (Parts t.rows (front.earlier ++ (n, v) ∷ [])) (sym split) (parts_push t.rows front.earlier (take front.used rest) n v (take used (drop at b)) front.parts part);
    }

module _ (laws : PartLaws) where
  -- a whole part is read
  part_is : (t : Layout) (n c : ℕ) (s : FieldSpec) (at size : ℕ) (b : List ℕ) → AreGood t.rows → AreBytes b → row_at t.rows n ≡ Some s → count_at s b ≡ Ok (Some c) → (read : SizeRead s c (drop (prefix_size s.length) b) size)
      → (prefix_size s.length + size ≤ length b) × PartAs t.rows n read.value (take (prefix_size s.length + size) b)
  part_is t n c s at size b good bytes row counted read =
      let front = prefix_size s.length in
      let rest : List ℕ = drop front b in
      let one = count_is (ltb (length b) front) (prefix_of s (take front b)) c counted in
      let room : front ≤ length b = ltb-false (length b) front one.0 in
      let own = body_size s.coding c in
      let whole_room : front + own ≤ length b = omega (arith, room, read.room, read.is, length-drop front b) in
      let part : part_at s b ≡ got read.value (front + size) =
      cond-false (ltb (length b) front) more (at_prefix s b (prefix_of s (take front b))) one.0
      ∙ ap (at_prefix s b) one.1
      ∙ cond-false (ltb (length b) (front + own)) more (at_body (front + own) (body_of s c (take own rest))) (le-ltb (length b) (front + own) whole_room)
      ∙ ap (λ (k : ℕ). at_body (front + k) (body_of s c (take k rest))) (sym read.is)
      ∙ ap (at_body (front + size)) read.read in
      let value : value_at t.rows n at b ≡ Ok (read.value, front + size) = ap (λ o. value_by o n at b) row ∙ ap (answer s n at (length b)) part in
      let taken = value_taken laws t.rows n at b read.value (front + size) good bytes value in
      (taken.room, taken.part)

  body_passes_by : (t : Layout) (b : List ℕ) (n c : ℕ) (s : FieldSpec) (rest : Bitmap) (at size end : ℕ) → AreGood t.rows → AreBytes b → row_at t.rows n ≡ Some s → (h : IsCounted t (next_body n c at) (members rest) b) → h.row ≡ s → size_at s c (drop at b) ≡ Ok (Some size) → at + size ≡ end
      → Passes t b (body n s c) at (Ok (points.Elements rest end))
  body_passes_by t b n c s rest at size end good bytes row h same read place =
      let front = prefix_size s.length in
      let inner : List ℕ = drop h.start b in
      let start : at ≡ h.start + front = h.place ∙ ap (λ (s : FieldSpec). h.start + prefix_size s.length) same in
      let behind : drop at b ≡ drop front inner = ap (λ (k : ℕ). drop k b) start ∙ sym (drop-drop front h.start b) in
      let sized : SizeRead s c (drop front inner) size = size_read s c (drop front inner) size (ap (size_at s c) (sym behind) ∙ read) in
      let counted : count_at s inner ≡ Ok (Some c) = subst (λ (s : FieldSpec). count_at s inner ≡ Ok (Some c)) same h.told in
      let part = part_is t n c s h.start size inner good (bytes_drop h.start b bytes) row counted sized in
      let ascends = front_ascends t n (members rest) h.start b h.front in (
        front_push t n (members rest) h.start (front + size) end b sized.value h.front part.0 part.1 (omega (arith, place, start)),
        omega (arith, place, sized.is),
        fewer t.rows (n + 1) (2 * n + 1) (members rest) ascends.2 (omega arith) (omega (arith, ascends.1)),
      )

pub body_passes : PartLaws → (t : Layout) (b : List ℕ) (n c : ℕ) (s : FieldSpec) (rest : Bitmap) (at end : ℕ) → AreGood t.rows → AreBytes b → row_at t.rows n ≡ Some s → IsCounted t (next_body n c at) (members rest) b → body_end s n c at b ≡ Ok end
    → Passes t b (body n s c) at (Ok (points.Elements rest end))
body_passes laws t b n c s rest at end good bytes row h read =
    let one = end_is n at end (size_at s c (drop at b)) read in
    let same : h.row ≡ s = (let both : Some h.row ≡ Some s = sym h.is ∙ row in cc) in
    body_passes_by laws t b n c s rest at one.0 end good bytes row h same one.1 one.2

body_fails_by : PieceLaws → (r : Result (Option ℕ) FieldFault) (t : Layout) (b : List ℕ) (n c : ℕ) (s : FieldSpec) (at : ℕ) (e : UnpackFault) → size_at s c (drop at b) ≡ r → end_by n at r ≡ Err e → HaltsAs t (body n s c) at (drop at b) e
body_fails_by laws (Ok (Some size)) t b n c s at e is h = absurd cc
body_fails_by laws (Ok None) t b n c s at e is h =
    let size = body_size s.coding c in
    let rest : List ℕ = drop at b in
    (causes.Short, fault_is {A = ℕ} _ e h, ltb-true (length rest) size (short_by (ltb (length rest) size) (body_of s c (take size rest)) size is))
body_fails_by laws (Err f) t b n c s at e is h =
    let size = body_size s.coding c in
    let rest : List ℕ = drop at b in
    let bad = bad_by (ltb (length rest) size) (body_of s c (take size rest)) size f is in
    let room : size ≤ length rest = ltb-false (length rest) size bad.0 in
    (causes.Field f, fault_is {A = ℕ} _ e h, (room, (laws.bad_body s c f (take size rest) (omega (arith, length-take size rest))).0 bad.1))

pub body_fails : PieceLaws → (t : Layout) (b : List ℕ) (n c : ℕ) (s : FieldSpec) (at : ℕ) (e : UnpackFault) → body_end s n c at b ≡ Err e → Passes t b (body n s c) at (Err e)
body_fails laws t b n c s at e read = halts_as t b (body n s c) at e (body_fails_by laws (size_at s c (drop at b)) t b n c s at e refl read)
