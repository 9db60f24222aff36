-- Reading on from a point gives what reading from the start gives.
use Rattle.std.proofs.Common.{◌≡◌, ◌≢◌, ℕ, ◌+◌, ◌≤◌, Bool, true, false, cond, ltb, List, [], ◌∷◌, ◌++◌, length, take, drop, Option, Some, None, Result, Ok, Err, refl, sym, ap, subst, ◌∙◌, append_assoc, arith}
use Rattle.std.proofs.lemmas.Bool.{cond-false, ltb-true, ltb-false, lt-ltb, le-ltb}
use Rattle.std.proofs.lemmas.List.{drop-append-le, take-append-le, drop-drop, length-append, length-drop, append-nil}
use Rattle.iso_parts.specs.Judging.{count_at, size_at, some_size}
use Rattle.iso_parts.specs.declared.fault.FieldFault.{FieldFault}
use Rattle.iso_parts.specs.declared.fault.FieldFault.TheVariants.{WrongLength, NotInClass, PadEnd, BadLengthDigits, LengthOver, BadFiller, BadHex, Memory}
use Rattle.iso_parts.specs.declared.spec.FieldSpec.{FieldSpec}
use Rattle.iso_parts.specs.PartLaws.{PartLaws, IsBodyFault, IsLengthFault, IsMore}
use Rattle.iso_parts.specs.Reading.{FieldReading, got, more, fault, prefix_size, prefix_of, body_size, body_of, at_body, at_prefix, part_at}
use Rattle.iso_table.specs.Layout.{Layout, row_at}
use Rattle.iso_wire.specs.declared.fault.UnpackFault.{UnpackFault}
use Rattle.iso_wire.specs.declared.fault.UnpackCause.TheVariants as causes
use Rattle.iso_wire.specs.declared.fault.UnpackCause.TheVariants.{Short, Field}
use Rattle.iso_wire.specs.declared.judging.ResumePoint.{ResumePoint}
use Rattle.iso_wire.specs.declared.judging.ResumePoint.TheVariants as points
use Rattle.iso_wire.specs.declared.judging.JudgingStop.{JudgingStop}
use Rattle.iso_parts.specs.declared.bitmap.Bitmap.{Bitmap}
use Rattle.iso_wire.specs.Contents.{Contents}
use Rattle.iso_parts.specs.Numbers.{numbers_in}
use Rattle.iso_parts.specs.Mti.{mti_size}
use Rattle.iso_wire.specs.Reading.{◌>>=◌, halt, type_at, words_at, fault_place, answer, value_by, elements_at, message_at, whole}
use Rattle.iso_wire.specs.ReadingLaws.{IsShort}
use Rattle.iso_wire.specs.Judging.{end_of, end_of_elements, end_by, body_end_under, behind_body, ends_from, GoesOn, Resumes, PassesPart, IsResumed}
use Rattle.iso_wire.proofs.Endings.{Stays, type_stays}
use Rattle.iso_wire.proofs.NeverMemory.{NeverMemory, message}
use Rattle.iso_wire.proofs.Orders.{Values}
use Rattle.iso_wire.proofs.Readings.{behind_type, message_is, count_is, count_fails}

-- what is good stays, whatever follows
stays_ok : {A : Type 0} (r r' : Result A UnpackFault) (x : A) → r ≡ Ok x → Stays r r' → r' ≡ Ok x
stays_ok r r' x is stays = stays (λ short. subst IsShort is short) ∙ is

-- ---- elements

abbrev first_of : ℕ → List ℕ → Values × ℕ → Result (Values × ℕ) UnpackFault
first_of n v x = Ok ((n, v) ∷ x.0, x.1)

end_behind : (n : ℕ) (v : List ℕ) (r : Result (Values × ℕ) UnpackFault) → end_of (r >>= first_of n v) ≡ end_of r
end_behind n v (Ok x) = refl
end_behind n v (Err e) = refl

abbrev behind_value : List (Option FieldSpec) → ℕ → List ℕ → ℕ → List ℕ → List ℕ × ℕ → Result (Values × ℕ) UnpackFault
behind_value rows n ns at b first = elements_at rows ns (at + first.1) (drop first.1 b) >>= first_of n first.0

-- a length that is whole tells the same count, whatever follows
record Counted (s : FieldSpec) (b : List ℕ) (n : ℕ) : Type 0 where
  pub room : prefix_size s.length ≤ length b
  pub read : prefix_of s (take (prefix_size s.length) b) ≡ Ok n

counted : (s : FieldSpec) (b : List ℕ) (n : ℕ) → count_at s b ≡ Ok (Some n) → Counted s b n
counted s b n is =
    let front = prefix_size s.length in
    let good = count_is (ltb (length b) front) (prefix_of s (take front b)) n is in
    record { room = ltb-false (length b) front good.0; read = good.1 }

counted_more : (s : FieldSpec) (b x : List ℕ) (n : ℕ) → Counted s b n → Counted s (b ++ x) n
counted_more s b x n h =
    let front = prefix_size s.length in
    record { room = omega (arith, h.room, length-append b x); read = ap (prefix_of s) (take-append-le front b x h.room) ∙ h.read }

-- a body is whole behind its length where the part is
same_room : (t : Bool) (front size : ℕ) (b : List ℕ) → front ≤ length b → ltb (length b) (front + size) ≡ t → ltb (length (drop front b)) size ≡ t
same_room true front size b room is = lt-ltb (length (drop front b)) size (omega (arith, ltb-true (length b) (front + size) is, length-drop front b))
same_room false front size b room is = le-ltb (length (drop front b)) size (omega (arith, ltb-false (length b) (front + size) is, length-drop front b))

body_place : (e : FieldFault) (front : ℕ) → IsBodyFault e → fault_place e front ≡ front
body_place BadFiller front h = refl
body_place BadHex front h = refl
body_place NotInClass front h = refl
body_place WrongLength front h = refl
body_place PadEnd front h = refl
body_place BadLengthDigits front h = absurd h
body_place LengthOver front h = absurd h
body_place Memory front h = refl

length_place : (e : FieldFault) (front : ℕ) → IsLengthFault e → fault_place e front ≡ 0
length_place BadLengthDigits front h = refl
length_place LengthOver front h = refl
length_place BadFiller front h = absurd h
length_place BadHex front h = absurd h
length_place NotInClass front h = absurd h
length_place WrongLength front h = absurd h
length_place PadEnd front h = absurd h
length_place Memory front h = absurd h

abbrev refused : ℕ → ℕ → FieldFault → Result ℕ UnpackFault
refused n at e = halt n at (Field e)

-- the value of a whole part and then the others, and the end of the body and then the others
whole_by : (rows : List (Option FieldSpec)) (s : FieldSpec) (n at front size : ℕ) (ns b : List ℕ) (r : Result (List ℕ) FieldFault) → front ≡ prefix_size s.length → ((e : FieldFault) → r ≡ Err e → IsBodyFault e)
    → end_of (answer s n at (length (drop at b)) (at_body (front + size) r) >>= behind_value rows n ns at (drop at b)) ≡ (end_by n (at + front) (some_size size r) >>= λ end. end_of_elements rows ns end b)
whole_by rows s n at front size ns b (Ok v) is faults =
    let place : at + (front + size) ≡ at + front + size = omega arith in
    end_behind n v (elements_at rows ns (at + (front + size)) (drop (front + size) (drop at b)))
    ∙ ap (λ (l : List ℕ). end_of (elements_at rows ns (at + (front + size)) l)) (drop-drop (front + size) at b)
    ∙ ap (λ (k : ℕ). end_of_elements rows ns k b) place
whole_by rows s n at front size ns b (Err e) is faults =
    ap (λ (k : ℕ). refused n (at + k) e) (body_place e (prefix_size s.length) (faults e refl) ∙ sym is)

part_by : (t : Bool) (rows : List (Option FieldSpec)) (s : FieldSpec) (n at front size : ℕ) (ns b : List ℕ) (r : Result (List ℕ) FieldFault) → front ≡ prefix_size s.length → ((e : FieldFault) → r ≡ Err e → IsBodyFault e)
    → ltb (length (drop at b)) (prefix_size s.length) ≡ false
    → end_of (answer s n at (length (drop at b)) (cond t more (at_body (front + size) r)) >>= behind_value rows n ns at (drop at b)) ≡ (end_by n (at + front) (cond t (Ok None) (some_size size r)) >>= λ end. end_of_elements rows ns end b)
part_by false rows s n at front size ns b r is faults long = whole_by rows s n at front size ns b r is faults
part_by true rows s n at front size ns b r is faults long =
    ap (λ (k : ℕ). short_at n k) (cond-false (ltb (length (drop at b)) (prefix_size s.length)) at (at + prefix_size s.length) long ∙ ap (λ (k : ℕ). at + k) (sym is))
  where
    short_at : ℕ → ℕ → Result ℕ UnpackFault
    short_at n at = halt n at Short

module _ (laws : PartLaws) where
  -- behind a good length, reading goes on at the body
  body_read : (rows : List (Option FieldSpec)) (s : FieldSpec) (n count at : ℕ) (ns b : List ℕ) → row_at rows n ≡ Some s → Counted s (drop at b) count
      → end_of_elements rows (n ∷ ns) at b ≡ (body_end_under (row_at rows n) n count (at + prefix_size s.length) b >>= behind_body rows ns b)
  body_read rows s n count at ns b row read =
      let front = prefix_size s.length in
      let size = body_size s.coding count in
      let d : List ℕ = drop at b in
      let t = ltb (length d) (front + size) in
      let r : Result (List ℕ) FieldFault = body_of s count (take size (drop front d)) in
      let long : ltb (length d) front ≡ false = le-ltb (length d) front read.room in
      let part : part_at s d ≡ cond t more (at_body (front + size) r) = cond-false (ltb (length d) front) more (at_prefix s d (prefix_of s (take front d))) long ∙ ap (at_prefix s d) read.read in
      let behind : drop (at + front) b ≡ drop front d = sym (drop-drop front at b) in
      let body : size_at s count (drop (at + front) b) ≡ cond t (Ok None) (some_size size r) =
      ap (size_at s count) behind ∙ ap (λ (c : Bool). cond c (Ok None) (some_size size r)) (same_room t front size d read.room refl) in
      ap (λ o. end_of (value_by o n at d >>= behind_value rows n ns at d)) row
      ∙ ap (λ (o : FieldReading). end_of (answer s n at (length d) o >>= behind_value rows n ns at d)) part
      ∙ part_by t rows s n at front size ns b r refl (laws.body_fault s count (take size (drop front d))) long
      ∙ ap (λ o. end_by n (at + front) o >>= λ end. end_of_elements rows ns end b) (sym body)
      ∙ ap (λ o. body_end_under o n count (at + front) b >>= λ end. end_of_elements rows ns end b) (sym row)

  pub length_goes_on : (rows : List (Option FieldSpec)) (s : FieldSpec) (old ns : List ℕ) (n count at : ℕ) (b : List ℕ) → old ≡ n ∷ ns → row_at rows n ≡ Some s → count_at s (drop at b) ≡ Ok (Some count) → at ≤ length b
      → (x : List ℕ) → end_of_elements rows old at (b ++ x) ≡ (body_end_under (row_at rows n) n count (at + prefix_size s.length) (b ++ x) >>= behind_body rows ns (b ++ x))
  length_goes_on rows s old ns n count at b is row read within = λ x.
      let place : drop at (b ++ x) ≡ drop at b ++ x = drop-append-le at b x within in
      let more = subst (λ (l : List ℕ). Counted s l count) (sym place) (counted_more s (drop at b) x count (counted s (drop at b) count read)) in
      ap (λ (l : List ℕ). end_of_elements rows l at (b ++ x)) is ∙ body_read rows s n count at ns (b ++ x) row more

  -- a bad length is the fault
  pub length_ends : (rows : List (Option FieldSpec)) (s : FieldSpec) (old ns : List ℕ) (n at : ℕ) (b : List ℕ) (e : FieldFault) → old ≡ n ∷ ns → row_at rows n ≡ Some s → count_at s (drop at b) ≡ Err e → end_of_elements rows old at b ≡ refused n at e
  length_ends rows s old ns n at b e is row bad =
      let front = prefix_size s.length in
      let d : List ℕ = drop at b in
      let read = count_fails (ltb (length d) front) (prefix_of s (take front d)) e bad in
      let part : part_at s d ≡ fault e = cond-false (ltb (length d) front) more (at_prefix s d (prefix_of s (take front d))) read.0 ∙ ap (at_prefix s d) read.1 in
      let none : at + fault_place e front ≡ at = ap (λ (k : ℕ). at + k) (length_place e front (laws.length_fault s (take front d) e read.1)) ∙ omega arith in
      ap (λ (l : List ℕ). end_of_elements rows l at b) is
      ∙ ap (λ o. end_of (value_by o n at d >>= behind_value rows n ns at d)) row
      ∙ ap (λ (o : FieldReading). end_of (answer s n at (length d) o >>= behind_value rows n ns at d)) part
      ∙ ap (λ (k : ℕ). refused n k e) none

  -- behind a part that is read, reading goes on at the next element
  pub part_goes_on : (rows : List (Option FieldSpec)) (s : FieldSpec) (old ns v : List ℕ) (n used at : ℕ) (b : List ℕ) → old ≡ n ∷ ns → row_at rows n ≡ Some s → part_at s (drop at b) ≡ got v used → at ≤ length b
      → (x : List ℕ) → end_of_elements rows old at (b ++ x) ≡ end_of_elements rows ns (at + used) (b ++ x)
  part_goes_on rows s old ns v n used at b is row read within = λ x.
      let d : List ℕ = drop at (b ++ x) in
      let place : drop at (b ++ x) ≡ drop at b ++ x = drop-append-le at b x within in
      let stays : part_at s (drop at (b ++ x)) ≡ got v used = ap (part_at s) place ∙ laws.stays s (drop at b) x (λ lacks. subst IsMore read lacks) ∙ read in
      ap (λ (l : List ℕ). end_of_elements rows l at (b ++ x)) is
      ∙ ap (λ o. end_of (value_by o n at d >>= behind_value rows n ns at d)) row
      ∙ ap (λ (o : FieldReading). end_of (answer s n at (length d) o >>= behind_value rows n ns at d)) stays
      ∙ end_behind n v (elements_at rows ns (at + used) (drop used d))
      ∙ ap (λ (l : List ℕ). end_of (elements_at rows ns (at + used) l)) (drop-drop used at (b ++ x))

-- bytes that end inside a length
abbrev short : ℕ → ℕ → Result ℕ UnpackFault
short n at = halt n at Short

-- ---- the body of an element

-- ---- from one point to the next

-- a part that is passed from where another point goes on alike
pub passes_from : (t : Layout) (from mid : ResumePoint) (rest : Bitmap) (b : List ℕ) (r : Result ℕ JudgingStop) → GoesOn t from mid b → PassesPart t mid b rest r → PassesPart t from b rest r
passes_from t from mid rest b (Ok end) one others = (λ x. one x ∙ others.0 x, others.1)
passes_from t from mid rest b (Err stopped) one others = record { read = others.read; goes_on = λ x. one x ∙ others.goes_on x; within = others.within }

pub resumes_then : (t : Layout) (from mid to : ResumePoint) (b : List ℕ) (r : Result ℕ UnpackFault) → GoesOn t from mid b → Resumes t mid b to r → Resumes t from b to r
resumes_then t from mid to b r one rest = record { read = rest.read; goes_on = λ x. one x ∙ rest.goes_on x; within = rest.within }

-- behind a good type
abbrev made : ℕ → Values → Contents
made mti es = record { mti = mti; elements = es }

end_made : (mti : ℕ) (r : Result (Values × ℕ) UnpackFault) → end_of (r >>= λ read. whole (made mti read.0) read.1) ≡ end_of r
end_made mti (Ok x) = refl
end_made mti (Err e) = refl

end_words : (mti : ℕ) (r : Result (ℕ × ℕ × ℕ) UnpackFault) (f : ℕ × ℕ × ℕ → Result (Values × ℕ) UnpackFault) → end_of (r >>= λ w. f w >>= λ read. whole (made mti read.0) read.1) ≡ r >>= λ w. end_of (f w)
end_words mti (Ok w) f = end_made mti (f w)
end_words mti (Err e) f = refl

pub type_goes_on : (t : Layout) (b : List ℕ) (mti : ℕ) → type_at t b ≡ Ok mti → GoesOn t points.Type points.Primary b
type_goes_on t b mti read = λ x.
    let stays : type_at t (b ++ x) ≡ Ok mti = stays_ok (type_at t b) (type_at t (b ++ x)) mti read (type_stays t b x) in
    let elements : ℕ × ℕ × ℕ → Result (Values × ℕ) UnpackFault = λ w. elements_at t.rows (numbers_in w.0 w.1) (mti_size t.mti + w.2) (drop (mti_size t.mti + w.2) (b ++ x)) in
    ap end_of (message_is t (b ++ x) ∙ ap (λ r. r >>= behind_type t (b ++ x)) stays)
    ∙ end_words mti (words_at t (mti_size t.mti) (drop (mti_size t.mti) (b ++ x))) elements

pub type_ends : (t : Layout) (b : List ℕ) (e : UnpackFault) → type_at t b ≡ Err e → end_of (message_at t b) ≡ Err e
type_ends t b e read = ap end_of (message_is t b ∙ ap (λ r. r >>= behind_type t b) read)

-- ---- what is resumed

pub at_start : (t : Layout) (b : List ℕ) → IsResumed t points.Type b
at_start t b = (tt, λ x. refl)

pub resumed_more : (t : Layout) (from to : ResumePoint) (old piece : List ℕ) (r : Result ℕ UnpackFault) → IsResumed t from old → Resumes t from (old ++ piece) to r → IsResumed t to (old ++ piece)
resumed_more t from to old piece r so_far found = (
  found.within,
  λ x.
      let group : (old ++ piece) ++ x ≡ old ++ (piece ++ x) = append_assoc old piece x in
      ap (ends_from t points.Type) group ∙ so_far.1 (piece ++ x) ∙ ap (ends_from t from) (sym group) ∙ found.goes_on x,
)

-- what the whole gives
pub resumed_read : (t : Layout) (from to : ResumePoint) (old piece : List ℕ) (r : Result ℕ UnpackFault) → IsResumed t from old → Resumes t from (old ++ piece) to r → end_of (message_at t (old ++ piece)) ≡ r
resumed_read t from to old piece r so_far found =
    let nothing : (old ++ piece) ++ [] ≡ old ++ piece = append-nil (old ++ piece) in
    so_far.1 piece ∙ ap (ends_from t from) (sym nothing) ∙ found.goes_on [] ∙ ap (ends_from t to) nothing ∙ found.read

-- what the bytes give that end at the point
pub resumed_here : (t : Layout) (from to : ResumePoint) (b : List ℕ) (r : Result ℕ UnpackFault) → IsResumed t from b → Resumes t from b to r → end_of (message_at t b) ≡ r
resumed_here t from to b r so_far found =
    let nothing : b ++ [] ≡ b = append-nil b in
    ap (ends_from t points.Type) (sym nothing) ∙ so_far.1 [] ∙ found.goes_on [] ∙ ap (ends_from t to) nothing ∙ found.read

-- bytes that are too short have no end
pub short_has_no_end : (r : Result (Contents × ℕ) UnpackFault) (end : ℕ) → IsShort r → end_of r ≡ Ok end → ⊥
short_has_no_end (Ok x) end short is = short
short_has_no_end (Err e) end short is = absurd cc

fault_of : (r : Result (Contents × ℕ) UnpackFault) (e : UnpackFault) → end_of r ≡ Err e → r ≡ Err e
fault_of (Ok x) e is = absurd cc
fault_of (Err f) e is = let same : f ≡ e = cc in ap Err same

-- a fault of judging is that of reading
pub resumed_fault : (t : Layout) (b : List ℕ) (e : UnpackFault) → end_of (message_at t b) ≡ Err e → message_at t b ≡ Err e
resumed_fault t b e is = fault_of (message_at t b) e is

pub fault_no_memory : (t : Layout) (b : List ℕ) (e : UnpackFault) → message_at t b ≡ Err e → e.cause ≢ causes.Memory
fault_no_memory t b e is = subst NeverMemory is (message t b)
