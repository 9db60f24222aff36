-- Reading stops at the length or the body of an element exactly where that piece isn't whole, or is bad.
use Rattle.std.proofs.Common.{◌≡◌, ℕ, ◌+◌, ◌≤◌, ◌<◌, Bool, true, false, cond, ltb, List, [], ◌∷◌, ◌++◌, ◌⊎◌, length, take, drop, Option, Some, Result, Ok, Err, refl, sym, ap, ◌∙◌, append_assoc, arith, inl, inr}
use Rattle.std.proofs.lemmas.Bool.{ltb-false, ltb-true, lt-ltb, le-ltb, cond-true, cond-false}
use Rattle.std.proofs.lemmas.List.{take_at, drop_at, drop-drop, length-append, length-take, length-drop}
use Rattle.std.proofs.Math.Seq.{take-add}
use Rattle.iso_parts.specs.declared.prefix.Length.{Length}
use Rattle.iso_parts.specs.declared.prefix.Length.TheVariants as lengths
use Rattle.iso_parts.specs.declared.spec.FieldSpec.{FieldSpec}
use Rattle.iso_parts.specs.declared.fault.FieldFault.{FieldFault}
use Rattle.iso_parts.specs.declared.fault.FieldFault.TheVariants as faults
use Rattle.iso_parts.specs.PartLaws.{PartLaws}
use Rattle.iso_parts.specs.PieceLaws.{PieceLaws}
use Rattle.iso_parts.specs.Pieces.{TellsCount, IsCount, IsBadCount, IsBadBody}
use Rattle.iso_parts.specs.Reading.{prefix_size, prefix_of, body_size, body_of, more, at_body, at_prefix, part_at}
use Rattle.iso_parts.specs.Spec.{IsGood}
use Rattle.iso_table.specs.Layout.{Layout, AreGood}
use Rattle.iso_wire.specs.declared.fault.UnpackFault.{UnpackFault}
use Rattle.iso_wire.specs.declared.fault.UnpackCause.{UnpackCause}
use Rattle.iso_wire.specs.declared.fault.UnpackCause.TheVariants as causes
use Rattle.iso_wire.specs.Reading.{◌>>=◌, halt, fault_place, answer, value_by, value_at, elements_at}
use Rattle.iso_wire.specs.Spelling.{AreBytes, Parts}
use Rattle.iso_wire.specs.Stops.{count, body, Halts}
use Rattle.iso_wire.proofs.Bytes.{bytes_take, bytes_drop}
use Rattle.iso_wire.proofs.ElementLaws.{part_read, value_taken}
use Rattle.iso_wire.proofs.Orders.{numbers_of, Values}
use Rattle.iso_wire.proofs.Readings.{length-prefix}
use Rattle.iso_wire.proofs.StopsMaps.{fault_is, fault_at, HaltsAs}

-- ---- where a part stops

count_place : (s : FieldSpec) (p : List ℕ) (f : FieldFault) (front : ℕ) → IsBadCount s p f → fault_place f front ≡ 0
count_place s p faults.BadLengthDigits front bad = refl
count_place s p faults.LengthOver front bad = refl
count_place s p faults.WrongLength front bad = absurd bad
count_place s p faults.NotInClass front bad = absurd bad
count_place s p faults.PadEnd front bad = absurd bad
count_place s p faults.BadFiller front bad = absurd bad
count_place s p faults.BadHex front bad = absurd bad
count_place s p faults.Memory front bad = absurd bad

body_place : (s : FieldSpec) (c : ℕ) (p : List ℕ) (f : FieldFault) (front : ℕ) → IsBadBody s c p f → fault_place f front ≡ front
body_place s c p faults.BadFiller front bad = refl
body_place s c p faults.BadHex front bad = refl
body_place s c p faults.NotInClass front bad = refl
body_place s c p faults.BadLengthDigits front bad = absurd bad
body_place s c p faults.LengthOver front bad = absurd bad
body_place s c p faults.WrongLength front bad = absurd bad
body_place s c p faults.PadEnd front bad = absurd bad
body_place s c p faults.Memory front bad = absurd bad

length_told : (k : Length) (max c : ℕ) (p : List ℕ) → TellsCount k max c p → length p ≡ prefix_size k
length_told lengths.Fixed max c p told = ap length told.0
length_told (lengths.LL d) max c p told = ap length told.1 ∙ length-prefix (lengths.LL d) c
length_told (lengths.LLL d) max c p told = ap length told.1 ∙ length-prefix (lengths.LLL d) c
length_told (lengths.LLLL d) max c p told = ap length told.1 ∙ length-prefix (lengths.LLLL d) c

-- the length is good, and the body stops reading with this fault
pub record BodyHalts (t : Layout) (n : ℕ) (s : FieldSpec) (at : ℕ) (b : List ℕ) (e : UnpackFault) : Type 0 where
  pub chars : ℕ
  pub room : prefix_size s.length ≤ length b
  pub count : IsCount s chars (take (prefix_size s.length) b)
  pub most : chars ≤ s.max
  pub halts : HaltsAs t (body n s chars) (at + prefix_size s.length) (drop (prefix_size s.length) b) e

abbrev PartHalts : Layout → ℕ → FieldSpec → ℕ → List ℕ → UnpackFault → Type 0
PartHalts t n s at b e = HaltsAs t (count n s) at b e ⊎ BodyHalts t n s at b e

abbrev Value : Type 0
Value = List ℕ × ℕ

short_at : (s : FieldSpec) (n at place : ℕ) (b : List ℕ) (e : UnpackFault) → cond (ltb (length b) (prefix_size s.length)) at (at + prefix_size s.length) ≡ place → answer s n at (length b) more ≡ Err e → fault_at n place causes.Short ≡ e
short_at s n at place b e is h = ap (λ (k : ℕ). fault_at n k causes.Short) (sym is) ∙ fault_is {A = Value} _ e h

module _ (laws : PieceLaws) where
  body_by : (r : Result (List ℕ) FieldFault) (t : Layout) (n : ℕ) (s : FieldSpec) (c at : ℕ) (b : List ℕ) (e : UnpackFault) → prefix_size s.length + body_size s.coding c ≤ length b
      → body_of s c (take (body_size s.coding c) (drop (prefix_size s.length) b)) ≡ r → answer s n at (length b) (at_body (prefix_size s.length + body_size s.coding c) r) ≡ Err e → HaltsAs t (body n s c) (at + prefix_size s.length) (drop (prefix_size s.length) b) e
  body_by (Ok v) t n s c at b e room is h = absurd cc
  body_by (Err f) t n s c at b e room is h =
      let front = prefix_size s.length in
      let size = body_size s.coding c in
      let rest : List ℕ = drop front b in
      let inside : size ≤ length rest = omega (arith, length-drop front b) in
      let bad = (laws.bad_body s c f (take size rest) (omega (arith, length-take size rest))).0 is in
      (causes.Field f, ap (λ (k : ℕ). fault_at n (at + k) (causes.Field f)) (sym (body_place s c (take size rest) f front bad)) ∙ fault_is {A = Value} _ e h, (inside, bad))

  size_by : (k : Bool) (t : Layout) (n : ℕ) (s : FieldSpec) (c at : ℕ) (b : List ℕ) (e : UnpackFault) → prefix_size s.length ≤ length b → ltb (length b) (prefix_size s.length + body_size s.coding c) ≡ k
      → answer s n at (length b) (cond k more (at_body (prefix_size s.length + body_size s.coding c) (body_of s c (take (body_size s.coding c) (drop (prefix_size s.length) b))))) ≡ Err e → HaltsAs t (body n s c) (at + prefix_size s.length) (drop (prefix_size s.length) b) e
  size_by true t n s c at b e room is h =
      let front = prefix_size s.length in
      let short = ltb-true (length b) (front + body_size s.coding c) is in
      (causes.Short, short_at s n at (at + front) b e (cond-false (ltb (length b) front) at (at + front) (le-ltb (length b) front room)) h, omega (arith, length-drop front b, short))
  size_by false t n s c at b e room is h =
      let front = prefix_size s.length in
      let size = body_size s.coding c in
      body_by (body_of s c (take size (drop front b))) t n s c at b e (ltb-false (length b) (front + size) is) refl h

  prefix_by : (r : Result ℕ FieldFault) (t : Layout) (n : ℕ) (s : FieldSpec) (at : ℕ) (b : List ℕ) (e : UnpackFault) → IsGood s → AreBytes b → prefix_size s.length ≤ length b
      → prefix_of s (take (prefix_size s.length) b) ≡ r → answer s n at (length b) (at_prefix s b r) ≡ Err e → PartHalts t n s at b e
  prefix_by (Err f) t n s at b e good bytes room is h =
      let front = prefix_size s.length in
      let p : List ℕ = take front b in
      let bad = (laws.bad_count s f p good (bytes_take front b bytes) (omega (arith, length-take front b))).0 is in
      let place : at ≡ at + fault_place f front = omega (arith, count_place s p f front bad) in
      inl (causes.Field f, ap (λ (k : ℕ). fault_at n k (causes.Field f)) place ∙ fault_is {A = Value} _ e h, (room, bad))
  prefix_by (Ok c) t n s at b e good bytes room is h =
      let front = prefix_size s.length in
      let told = (laws.count s c (take front b) good (bytes_take front b bytes) (omega (arith, length-take front b))).0 is in
      inr (record { chars = c; room = room; count = told.0; most = told.1; halts = size_by (ltb (length b) (front + body_size s.coding c)) t n s c at b e room refl h })

  part_by : (k : Bool) (t : Layout) (n : ℕ) (s : FieldSpec) (at : ℕ) (b : List ℕ) (e : UnpackFault) → IsGood s → AreBytes b → ltb (length b) (prefix_size s.length) ≡ k
      → answer s n at (length b) (cond k more (at_prefix s b (prefix_of s (take (prefix_size s.length) b)))) ≡ Err e → PartHalts t n s at b e
  part_by true t n s at b e good bytes is h =
      let front = prefix_size s.length in
      inl (causes.Short, short_at s n at at b e (cond-true (ltb (length b) front) at (at + front) is) h, ltb-true (length b) front is)
  part_by false t n s at b e good bytes is h = prefix_by (prefix_of s (take (prefix_size s.length) b)) t n s at b e good bytes (ltb-false (length b) (prefix_size s.length) is) refl h

  -- where no value is read, its length or its body isn't whole or is bad
  pub value_halts : (t : Layout) (n : ℕ) (s : FieldSpec) (at : ℕ) (b : List ℕ) (e : UnpackFault) → IsGood s → AreBytes b → value_by (Some s) n at b ≡ Err e → PartHalts t n s at b e
  value_halts t n s at b e good bytes h = part_by (ltb (length b) (prefix_size s.length)) t n s at b e good bytes refl h

  -- where the length isn't whole or is bad, reading stops there
  pub count_is_halted : (t : Layout) (n : ℕ) (s : FieldSpec) (at : ℕ) (b : List ℕ) (cause : UnpackCause) → IsGood s → AreBytes b → Halts t (count n s) b cause → value_by (Some s) n at b ≡ halt n at cause
  count_is_halted t n s at b causes.Short good bytes h =
      let front = prefix_size s.length in
      let is = lt-ltb (length b) front h in
      ap (answer s n at (length b)) (cond-true (ltb (length b) front) more (at_prefix s b (prefix_of s (take front b))) is)
      ∙ ap (λ (k : ℕ). halt n k causes.Short) (cond-true (ltb (length b) front) at (at + front) is)
  count_is_halted t n s at b (causes.Field f) good bytes h =
      let front = prefix_size s.length in
      let p : List ℕ = take front b in
      let read = (laws.bad_count s f p good (bytes_take front b bytes) (omega (arith, length-take front b, h.0))).1 h.1 in
      let place : at + fault_place f front ≡ at = omega (arith, count_place s p f front h.1) in
      ap (answer s n at (length b)) (cond-false (ltb (length b) front) more (at_prefix s b (prefix_of s p)) (le-ltb (length b) front h.0) ∙ ap (at_prefix s b) read)
      ∙ ap (λ (k : ℕ). halt n k (causes.Field f)) place
  count_is_halted t n s at b causes.BadMti good bytes h = absurd h.1
  count_is_halted t n s at b causes.WrongVersion good bytes h = absurd h.1
  count_is_halted t n s at b causes.BadHex good bytes h = absurd h.1
  count_is_halted t n s at b causes.ThirdBitmap good bytes h = absurd h.1
  count_is_halted t n s at b (causes.UnknownElement m) good bytes h = absurd h.1
  count_is_halted t n s at b causes.Memory good bytes h = absurd h.1

  -- behind a good length, reading is of the body
  behind_count : (n : ℕ) (s : FieldSpec) (c at : ℕ) (p rest : List ℕ) → IsGood s → AreBytes p → IsCount s c p → c ≤ s.max → part_at s (p ++ rest) ≡ at_prefix s (p ++ rest) (Ok c)
  behind_count n s c at p rest good bytes told most =
      let front = prefix_size s.length in
      let b : List ℕ = p ++ rest in
      let size : length p ≡ front = length_told s.length s.max c p told in
      let room : front ≤ length b = omega (arith, length-append p rest) in
      cond-false (ltb (length b) front) more (at_prefix s b (prefix_of s (take front b))) (le-ltb (length b) front room)
      ∙ ap (λ (l : List ℕ). at_prefix s b (prefix_of s l)) (take_at p rest front size)
      ∙ ap (at_prefix s b) ((laws.count s c p good bytes size).1 (told, most))

  -- where the body isn't whole or is bad, reading stops there
  pub body_is_halted : (t : Layout) (n : ℕ) (s : FieldSpec) (c at : ℕ) (p rest : List ℕ) (cause : UnpackCause) → IsGood s → AreBytes p → IsCount s c p → c ≤ s.max → Halts t (body n s c) rest cause → value_by (Some s) n at (p ++ rest) ≡ halt n (at + length p) cause
  body_is_halted t n s c at p rest causes.Short good bytes told most h =
      let front = prefix_size s.length in
      let size = body_size s.coding c in
      let b : List ℕ = p ++ rest in
      let len : length p ≡ front = length_told s.length s.max c p told in
      let both = length-append p rest in
      let short : length b < front + size = omega arith in
      let room : front ≤ length b = omega arith in
      ap (answer s n at (length b)) (behind_count n s c at p rest good bytes told most ∙ cond-true (ltb (length b) (front + size)) more (at_body (front + size) (body_of s c (take size (drop front b)))) (lt-ltb (length b) (front + size) short))
      ∙ ap (λ (k : ℕ). halt n k causes.Short) (cond-false (ltb (length b) front) at (at + front) (le-ltb (length b) front room))
      ∙ ap (λ (k : ℕ). halt n (at + k) causes.Short) (sym len)
  body_is_halted t n s c at p rest (causes.Field f) good bytes told most h =
      let front = prefix_size s.length in
      let size = body_size s.coding c in
      let b : List ℕ = p ++ rest in
      let len : length p ≡ front = length_told s.length s.max c p told in
      let room : front + size ≤ length b = omega (arith, length-append p rest, h.0) in
      let read = (laws.bad_body s c f (take size rest) (omega (arith, length-take size rest, h.0))).1 h.1 in
      ap (answer s n at (length b)) (behind_count n s c at p rest good bytes told most
      ∙ cond-false (ltb (length b) (front + size)) more (at_body (front + size) (body_of s c (take size (drop front b)))) (le-ltb (length b) (front + size) room)
      ∙ ap (λ (l : List ℕ). at_body (front + size) (body_of s c (take size l))) (drop_at p rest front len)
      ∙ ap (at_body (front + size)) read)
      ∙ ap (λ (k : ℕ). halt n (at + k) (causes.Field f)) (body_place s c (take size rest) f front h.1 ∙ sym len)
  body_is_halted t n s c at p rest causes.BadMti good bytes told most h = absurd h.1
  body_is_halted t n s c at p rest causes.WrongVersion good bytes told most h = absurd h.1
  body_is_halted t n s c at p rest causes.BadHex good bytes told most h = absurd h.1
  body_is_halted t n s c at p rest causes.ThirdBitmap good bytes told most h = absurd h.1
  body_is_halted t n s c at p rest (causes.UnknownElement m) good bytes told most h = absurd h.1
  body_is_halted t n s c at p rest causes.Memory good bytes told most h = absurd h.1

-- ---- the element whose part stops

-- the parts of some elements were read, and that of n stops reading with this fault
pub record ElementHalts (rows : List (Option FieldSpec)) (ns : List ℕ) (at : ℕ) (b : List ℕ) (e : UnpackFault) : Type 0 where
  pub earlier : Values
  pub n : ℕ
  pub others : List ℕ
  pub split : ns ≡ numbers_of earlier ++ n ∷ others
  pub used : ℕ
  pub room : used ≤ length b
  pub parts : Parts rows earlier (take used b)
  pub halts : value_at rows n (at + used) (drop used b) ≡ Err e

abbrev put_front : ℕ → List ℕ → Values × ℕ → Result (Values × ℕ) UnpackFault
put_front n v others = Ok ((n, v) ∷ others.0, others.1)

put_err : (n : ℕ) (v : List ℕ) (r : Result (Values × ℕ) UnpackFault) (e : UnpackFault) → r >>= put_front n v ≡ Err e → r ≡ Err e
put_err n v (Ok x) e h = absurd cc
put_err n v (Err f) e h = ap Err (fault_is {A = Values × ℕ} f e h)

module _ (laws : PartLaws) where
  element_by : (r : Result Value UnpackFault) (rows : List (Option FieldSpec)) (n : ℕ) (ns : List ℕ) (at : ℕ) (b : List ℕ) (e : UnpackFault) → AreGood rows → AreBytes b → value_at rows n at b ≡ r
      → ((used : ℕ) → elements_at rows ns (at + used) (drop used b) ≡ Err e → ElementHalts rows ns (at + used) (drop used b) e)
      → r >>= (λ first. elements_at rows ns (at + first.1) (drop first.1 b) >>= put_front n first.0) ≡ Err e → ElementHalts rows (n ∷ ns) at b e
  element_by (Err f) rows n ns at b e good bytes is next h =
      let same : at + 0 ≡ at = omega arith in
      record {
        earlier = [];
        n = n;
        others = ns;
        split = refl;
        used = 0;
        room = omega arith;
        parts = refl;
        halts = ap (λ (k : ℕ). value_at rows n k b) same ∙ is ∙ ap Err (fault_is {A = Values × ℕ} f e h);
      }
  element_by (Ok x) rows n ns at b e good bytes is next h =
      let one = value_taken laws rows n at b x.0 x.1 good bytes is in
      let rest = next x.1 (put_err n x.0 (elements_at rows ns (at + x.1) (drop x.1 b)) e h) in
      let size = x.1 + rest.used in
      let place : at + size ≡ at + x.1 + rest.used = omega arith in
      record {
        earlier = (n, x.0) ∷ rest.earlier;
        n = rest.n;
        others = rest.others;
        split = ap (λ (l : List ℕ). n ∷ l) rest.split;
        used = size;
        room = omega (arith, one.room, rest.room, length-drop x.1 b);
        parts = (take x.1 b, take rest.used (drop x.1 b), one.part, rest.parts, take-add x.1 rest.used b);
        halts = ap (λ (k : ℕ). value_at rows rest.n k (drop size b)) place ∙ ap (value_at rows rest.n (at + x.1 + rest.used)) (sym (drop-drop rest.used x.1 b)) ∙ rest.halts;
      }

  -- where the elements aren't read, one of them stops reading
  pub elements_halt : (rows : List (Option FieldSpec)) (ns : List ℕ) (at : ℕ) (b : List ℕ) (e : UnpackFault) → AreGood rows → AreBytes b → elements_at rows ns at b ≡ Err e → ElementHalts rows ns at b e
  elements_halt rows [] at b e good bytes h = absurd cc
  elements_halt rows (n ∷ ns) at b e good bytes h =
      element_by (value_at rows n at b) rows n ns at b e good bytes refl (λ used rest. elements_halt rows ns (at + used) (drop used b) e good (bytes_drop used b bytes) rest) h

  -- and where one of them stops reading, they aren't read
  pub elements_are_halted : (rows : List (Option FieldSpec)) (es : Values) (n : ℕ) (others : List ℕ) (at : ℕ) (b rest : List ℕ) (e : UnpackFault) → AreGood rows → Parts rows es b → value_at rows n (at + length b) rest ≡ Err e → elements_at rows (numbers_of es ++ n ∷ others) at (b ++ rest) ≡ Err e
  elements_are_halted rows [] n others at b rest e good parts h =
      let place : at ≡ at + length b = sym (ap (λ (l : List ℕ). at + length l) parts ∙ omega arith) in
      let read : value_at rows n at (b ++ rest) ≡ Err e = ap (λ (l : List ℕ). value_at rows n at (l ++ rest)) parts ∙ ap (λ (k : ℕ). value_at rows n k rest) place ∙ h in
      ap (λ r. r >>= λ (first : Value). elements_at rows others (at + first.1) (drop first.1 (b ++ rest)) >>= put_front n first.0) read
  elements_are_halted rows (x ∷ es) n others at b rest e good parts h =
      let part : List ℕ = parts.0 in
      let after : List ℕ = parts.1 in
      let ns : List ℕ = numbers_of es ++ n ∷ others in
      let regrouped : b ++ rest ≡ part ++ (after ++ rest) = ap (λ (l : List ℕ). l ++ rest) parts.4 ∙ append_assoc part after rest in
      let first : value_at rows x.0 at (b ++ rest) ≡ Ok (x.1, length part) = ap (value_at rows x.0 at) regrouped ∙ part_read laws rows x.0 at x.1 part (after ++ rest) good parts.2 in
      let behind : drop (length part) (b ++ rest) ≡ after ++ rest = ap (drop (length part)) regrouped ∙ drop_at part (after ++ rest) (length part) refl in
      let place : at + length part + length after ≡ at + length b = sym (ap (λ (l : List ℕ). at + length l) parts.4 ∙ omega (arith, length-append part after)) in
      let later : value_at rows n (at + length part + length after) rest ≡ Err e = ap (λ (k : ℕ). value_at rows n k rest) place ∙ h in
      ap (λ r. r >>= λ (first : Value). elements_at rows ns (at + first.1) (drop first.1 (b ++ rest)) >>= put_front x.0 first.0) first
      ∙ ap (λ (l : List ℕ). elements_at rows ns (at + length part) l >>= put_front x.0 x.1) behind
      ∙ ap (λ r. r >>= put_front x.0 x.1) (elements_are_halted rows es n others (at + length part) after rest e good parts.3 later)
