-- The value of an element of a message that is viewed, read where its body lies.
use Rattle.std.proofs.Common.{◌≡◌, ◌≢◌, ℕ, ◌+◌, ◌-◌, ◌≤◌, Bool, true, false, cond, eqb, List, [], ◌∷◌, ◌++◌, length, take, drop, Option, Some, None, Result, Ok, Err, refl, sym, ap, subst, ◌∙◌, append_assoc, arith}
use Rattle.std.proofs.lemmas.Bool.{eqb-true, cond-true, cond-false}
use Rattle.std.proofs.lemmas.List.{drop_at, drop-drop, length-append, length-take-le, take-append-drop}
use Rattle.iso_parts.specs.PartLaws.{PartLaws}
use Rattle.iso_parts.specs.Part.{Body, prefix}
use Rattle.iso_parts.specs.Reading.{prefix_size}
use Rattle.iso_parts.specs.declared.spec.FieldSpec.{FieldSpec}
use Rattle.iso_table.specs.Layout.{Layout, row_at, AreGood}
use Rattle.iso_wire.specs.Bodies.{AreWithin}
use Rattle.iso_wire.specs.Contents.{Contents}
use Rattle.iso_wire.specs.declared.bodies.Bodies.{Bodies}
use Rattle.iso_wire.specs.Elements.{value_in}
use Rattle.iso_parts.specs.Digits.{four_digits_of}
use Rattle.iso_wire.specs.Appending.{AppendsPart}
use Rattle.iso_wire.specs.Faults.{out_of_memory}
use Rattle.iso_wire.specs.Reading.{IsFaultOf, value_at}
use Rattle.iso_wire.specs.ReadingLaws.{ReadsSpellings}
use Rattle.iso_wire.specs.Spelling.{AreBytes, BeginsWith, Spelling}
use Rattle.iso_wire.specs.Viewing.{ViewContents, front_of, starts_of, SpellsBodies, IsViewed}
use Rattle.iso_wire.specs.ViewLaws.{IsValueAt}
use Rattle.iso_wire.specs.declared.fault.UnpackFault.{UnpackFault}
use Rattle.iso_wire.specs.declared.fault.UnpackCause.{UnpackCause}
use Rattle.iso_wire.specs.declared.fault.UnpackCause.TheVariants.{Short, BadMti, WrongVersion, BadHex, ThirdBitmap, UnknownElement, Field, Memory}
use Rattle.iso_wire.proofs.ElementLaws.{part_read}
use Rattle.iso_wire.proofs.Orders.{Values}
use Rattle.iso_wire.proofs.Readings.{length-prefix}

some_is : (a b : ℕ) → Some a ≡ Some b → a ≡ b
some_is a b h = cc

module _ (rows : List (Option FieldSpec)) (n : ℕ) (b : List ℕ) where
  value_by : (is : Bool) (e w : ℕ × List ℕ) (es ws : Values) (at start : ℕ) (rest : List ℕ) → eqb w.0 n ≡ is → (h : (s : FieldSpec) × (tail : List ℕ) × (row_at rows e.0 ≡ Some s) × (w.0 ≡ e.0) × Body s e.1 w.1 × (drop at b ≡ prefix s.length (length e.1) ++ (w.1 ++ tail)))
      → cond is (Some (at + front_of (row_at rows w.0))) (value_in (starts_of rows (at + front_of (row_at rows w.0) + length w.1) ws) n) ≡ Some start
      → (value_in (starts_of rows (at + front_of (row_at rows w.0) + length w.1) ws) n ≡ Some start → IsValueAt rows es n start b)
      → IsValueAt rows (e ∷ es) n start b
  value_by true e w es ws at start rest is h there next =
      let s : FieldSpec = h.0 in
      let number : w.0 ≡ n = eqb-true w.0 n is in
      let own : e.0 ≡ n = sym h.3 ∙ number in
      let row : row_at rows n ≡ Some s = ap (row_at rows) (sym own) ∙ h.2 in
      let front : front_of (row_at rows n) ≡ prefix_size s.length = ap front_of row in
      let begin : at + front_of (row_at rows n) ≡ start = ap (λ (k : ℕ). at + front_of (row_at rows k)) (sym number) ∙ some_is _ start there in
      let same : eqb e.0 n ≡ true = subst (λ (k : ℕ). eqb k n ≡ true) h.3 is in
      let place : start - front_of (row_at rows n) ≡ at = omega (arith, begin) in
      let part : List ℕ = prefix s.length (length e.1) ++ w.1 in
      record {
        value = e.1;
        part = part;
        behind = h.1;
        there = cond-true (eqb e.0 n) (Some e.1) (value_in es n) same;
        is = (s, row, (w.1, h.4, refl));
        front = omega (arith, begin);
        lies = ap (λ (k : ℕ). drop k b) place ∙ h.5 ∙ sym (append_assoc (prefix s.length (length e.1)) w.1 h.1);
      }
  value_by false e w es ws at start rest is h there next =
      let found = next there in
      let other : eqb e.0 n ≡ false = subst (λ (k : ℕ). eqb k n ≡ false) h.3 is in
      record {
        value = found.value;
        part = found.part;
        behind = found.behind;
        there = cond-false (eqb e.0 n) (Some e.1) (value_in es n) other ∙ found.there;
        is = found.is;
        front = found.front;
        lies = found.lies;
      }

  pub value_there : (es ws : Values) (at start : ℕ) (p rest : List ℕ) → SpellsBodies rows es ws p → drop at b ≡ p ++ rest → value_in (starts_of rows at ws) n ≡ Some start → IsValueAt rows es n start b
  value_there [] [] at start p rest wired lies there = absurd cc
  value_there [] (w ∷ ws) at start p rest wired lies there = absurd wired
  value_there (e ∷ es) [] at start p rest wired lies there = absurd wired
  value_there (e ∷ es) (w ∷ ws) at start p rest wired lies there =
      let s : FieldSpec = wired.0 in
      let tail : List ℕ = wired.1 in
      let front : List ℕ = prefix s.length (length e.1) in
      let row : row_at rows w.0 ≡ Some s = ap (row_at rows) wired.3 ∙ wired.2 in
      let size : front_of (row_at rows w.0) ≡ length front = ap front_of row ∙ sym (length-prefix s.length (length e.1)) in
      let split : drop at b ≡ front ++ (w.1 ++ (tail ++ rest)) =
      lies ∙ ap (λ (l : List ℕ). l ++ rest) wired.5 ∙ append_assoc front (w.1 ++ tail) rest ∙ ap (λ (l : List ℕ). front ++ l) (append_assoc w.1 tail rest) in
      let next : ℕ = at + front_of (row_at rows w.0) + length w.1 in
      let whole : length (front ++ w.1) ≡ front_of (row_at rows w.0) + length w.1 = omega (arith, size, length-append front w.1) in
      let after : drop next b ≡ tail ++ rest =
      ap (λ (k : ℕ). drop k b) (let sum : next ≡ at + (front_of (row_at rows w.0) + length w.1) = omega arith in sum)
      ∙ sym (drop-drop (front_of (row_at rows w.0) + length w.1) at b)
      ∙ ap (drop (front_of (row_at rows w.0) + length w.1)) (split ∙ sym (append_assoc front w.1 (tail ++ rest)))
      ∙ drop_at (front ++ w.1) (tail ++ rest) (front_of (row_at rows w.0) + length w.1) whole in
      value_by (eqb w.0 n) e w es ws at start rest refl (s, tail ++ rest, wired.2, wired.3, wired.4, split) there (λ later. value_there es ws next start tail rest wired.6 after later)

-- an element whose body isn't there has no value
absent_by : (is : Bool) (e w : ℕ × List ℕ) (es ws : Values) (n : ℕ) → eqb w.0 n ≡ is → w.0 ≡ e.0 → cond is (Some w.1) (value_in ws n) ≡ None → (value_in ws n ≡ None → value_in es n ≡ None) → value_in (e ∷ es) n ≡ None
absent_by true e w es ws n is same none rest = absurd cc
absent_by false e w es ws n is same none rest = cond-false (eqb e.0 n) (Some e.1) (value_in es n) (subst (λ (k : ℕ). eqb k n ≡ false) same is) ∙ rest none

pub value_absent : (rows : List (Option FieldSpec)) (es ws : Values) (p : List ℕ) (n : ℕ) → SpellsBodies rows es ws p → value_in ws n ≡ None → value_in es n ≡ None
value_absent rows [] [] p n wired none = refl
value_absent rows [] (w ∷ ws) p n wired none = absurd wired
value_absent rows (e ∷ es) [] p n wired none = absurd wired
value_absent rows (e ∷ es) (w ∷ ws) p n wired none = absent_by (eqb w.0 n) e w es ws n refl wired.3 none (λ later. value_absent rows es ws wired.1 n wired.6 later)

-- the value is read there
pub value_read : PartLaws → (rows : List (Option FieldSpec)) (es : Values) (n start : ℕ) (b : List ℕ) → AreGood rows → (h : IsValueAt rows es n start b)
    → value_at rows n (start - front_of (row_at rows n)) (drop (start - front_of (row_at rows n)) b) ≡ Ok (h.value, length h.part)
value_read laws rows es n start b good h =
    let at = start - front_of (row_at rows n) in
    ap (value_at rows n at) h.lies ∙ part_read laws rows n at h.value h.part h.behind good h.is

-- ---- a message that is viewed

abbrev ok_of : Contents × ℕ → Result (Contents × ℕ) UnpackFault
ok_of x = Ok x

same_message : (x y : Contents × ℕ) → ok_of x ≡ ok_of y → x.0 ≡ y.0
same_message x y h = let pair : x ≡ y = cc in ap (λ (p : Contents × ℕ). p.0) pair

abbrev part_of : List ℕ × ℕ → Result (List ℕ × ℕ) UnpackFault
part_of x = Ok x

same_value : (x y : List ℕ × ℕ) → part_of x ≡ part_of y → x.0 ≡ y.0
same_value x y h = let pair : x ≡ y = cc in ap (λ (p : List ℕ × ℕ). p.0) pair

no_fault : (x : List ℕ × ℕ) (e : UnpackFault) → part_of x ≡ Err e → ⊥
no_fault x e h = absurd cc

memory_by : (cause : UnpackCause) (e : UnpackFault) → e.cause ≡ cause → (e.cause ≡ Memory → e ≡ out_of_memory) → (e.cause ≢ Memory → ⊥) → e ≡ out_of_memory
memory_by Memory e is memory other = memory is
memory_by Short e is memory other = absurd (other (λ same. absurd (let both : Short ≡ Memory = sym is ∙ same in cc)))
memory_by BadMti e is memory other = absurd (other (λ same. absurd (let both : BadMti ≡ Memory = sym is ∙ same in cc)))
memory_by WrongVersion e is memory other = absurd (other (λ same. absurd (let both : WrongVersion ≡ Memory = sym is ∙ same in cc)))
memory_by BadHex e is memory other = absurd (other (λ same. absurd (let both : BadHex ≡ Memory = sym is ∙ same in cc)))
memory_by ThirdBitmap e is memory other = absurd (other (λ same. absurd (let both : ThirdBitmap ≡ Memory = sym is ∙ same in cc)))
memory_by (UnknownElement k) e is memory other = absurd (other (λ same. absurd (let both : UnknownElement k ≡ Memory = sym is ∙ same in cc)))
memory_by (Field f) e is memory other = absurd (other (λ same. absurd (let both : Field f ≡ Memory = sym is ∙ same in cc)))

-- where the parts of the elements lie
parts_lie : (t : Layout) (m : Contents) (used : ℕ) (b : List ℕ) → used ≤ length b → (spelling : Spelling t m (take used b)) → drop (used - length spelling.parts) b ≡ spelling.parts ++ drop used b
parts_lie t m used b room spelling =
    let head : List ℕ = four_digits_of t.mti m.mti ++ spelling.maps in
    let parts : List ℕ = spelling.parts in
    let front : take used b ≡ head ++ parts = spelling.bytes ∙ sym (append_assoc (four_digits_of t.mti m.mti) spelling.maps parts) in
    let all : b ≡ head ++ (parts ++ drop used b) = sym (take-append-drop used b) ∙ ap (λ (l : List ℕ). l ++ drop used b) front ∙ append_assoc head parts (drop used b) in
    let size : length head ≡ used - length parts = omega (arith, length-take-le used b room, ap length front, length-append head parts) in
    ap (drop (used - length parts)) all ∙ drop_at head (parts ++ drop used b) (used - length parts) size

module _ (reads : ReadsSpellings) (t : Layout) (v : ViewContents) (good : AreGood t.rows) (bytes : AreBytes v.bytes) where
  -- the message is the one that the view is of
  viewed_is : (m : Contents) (size : ℕ) → (h : IsViewed t v v.bytes) → BeginsWith t m size v.bytes → h.0 ≡ m
  viewed_is m size h begins = same_message (h.0, v.used) (m, size) (sym ((reads t h.0 v.used v.bytes good bytes).1 (h.2, h.3.0)) ∙ (reads t m size v.bytes good bytes).1 begins)

  viewed_value : (n start : ℕ) → (h : IsViewed t v v.bytes) → value_in v.starts n ≡ Some start → IsValueAt t.rows h.0.elements n start v.bytes
  viewed_value n start h there =
      let spelling = h.3.0 in
      value_there t.rows n v.bytes h.0.elements v.wires (v.used - length spelling.parts) start spelling.parts (drop v.used v.bytes) h.3.1 (parts_lie t h.0 v.used v.bytes h.2 spelling) (ap (λ (l : List (ℕ × ℕ)). value_in l n) (sym h.3.2) ∙ there)

  -- no element, no value
  pub no_value : (n : ℕ) (m : Contents) (size : ℕ) → IsViewed t v v.bytes → BeginsWith t m size v.bytes → value_in v.wires n ≡ None → value_in m.elements n ≡ None
  no_value n m size h begins none =
      ap (λ (m : Contents). value_in m.elements n) (sym (viewed_is m size h begins)) ∙ value_absent t.rows h.0.elements v.wires h.3.0.parts n h.3.1 none

  -- what is read in front of the body is the value
  pub value_is_read : PartLaws → (n start used : ℕ) (value : List ℕ) (m : Contents) (size : ℕ) → IsViewed t v v.bytes → BeginsWith t m size v.bytes → value_in v.starts n ≡ Some start
      → AppendsPart [] value (Ok used) (value_at t.rows n (start - front_of (row_at t.rows n)) (drop (start - front_of (row_at t.rows n)) v.bytes)) → value_in m.elements n ≡ Some value
  value_is_read laws n start used value m size h begins there appends =
      let found = viewed_value n start h there in
      let read = value_read laws t.rows h.0.elements n start v.bytes good found in
      let same : found.value ≡ appends.0 = same_value (found.value, length found.part) (appends.0, used) (sym read ∙ appends.1) in
      ap (λ (m : Contents). value_in m.elements n) (sym (viewed_is m size h begins)) ∙ found.there ∙ ap Some (same ∙ sym appends.2)

  -- a fault there is want of memory
  pub value_memory : PartLaws → (n start : ℕ) (e : UnpackFault) → IsViewed t v v.bytes → value_in v.starts n ≡ Some start
      → IsFaultOf e (value_at t.rows n (start - front_of (row_at t.rows n)) (drop (start - front_of (row_at t.rows n)) v.bytes)) → e ≡ out_of_memory
  value_memory laws n start e h there fault =
      let found = viewed_value n start h there in
      let read = value_read laws t.rows h.0.elements n start v.bytes good found in
      memory_by e.cause e refl fault.0 (λ ne. no_fault (found.value, length found.part) e (sym read ∙ fault.1 ne))

-- bodies that lie within so many bytes lie within more of them
pub within_more : (size more : ℕ) (bodies : Bodies) (ns : List ℕ) → size ≤ more → AreWithin size bodies ns → AreWithin more bodies ns
within_more size more bodies [] le h = tt
within_more size more bodies (n ∷ ns) le h = (omega (arith, h.0), within_more size more bodies ns le h.1)
