-- What is read are the parts of the elements, and the parts of elements are read.
use Rattle.std.proofs.Common.{◌≡◌, ℕ, ◌+◌, ◌≤◌, true, is_some, List, [], ◌∷◌, ◌++◌, length, take, drop, Option, Some, None, Result, Ok, Err, refl, sym, ap, subst, ◌∙◌, append_assoc, arith, inl, inr}
use Rattle.std.proofs.lemmas.Bool.{cases_eq}
use Rattle.std.proofs.lemmas.List.{drop_at, length-append, length-drop}
use Rattle.std.proofs.Math.Seq.{take-add}
use Rattle.iso_parts.specs.declared.spec.FieldSpec.{FieldSpec}
use Rattle.iso_parts.specs.Part.{Part}
use Rattle.iso_parts.specs.Spec.{IsGood}
use Rattle.iso_parts.specs.Reading.{FieldReading, got, more, fault, part_at}
use Rattle.iso_parts.specs.PartLaws.{PartLaws}
use Rattle.iso_wire.specs.declared.fault.UnpackFault.{UnpackFault}
use Rattle.iso_table.specs.Layout.{row_at, AreGood}
use Rattle.iso_wire.specs.Elements.{has}
use Rattle.iso_wire.specs.Spelling.{AreBytes, Parts, PartAs}
use Rattle.iso_wire.specs.Reading.{◌>>=◌, answer, value_by, value_at, elements_at}
use Rattle.iso_wire.proofs.Bytes.{bytes_drop}
use Rattle.iso_wire.proofs.Orders.{numbers_of, Values}
use Rattle.iso_wire.proofs.Sets.{has_after}

-- ---- the parts of elements are read

abbrev ok_of : Values × ℕ → Result (Values × ℕ) UnpackFault
ok_of x = Ok x

module _ (laws : PartLaws) where
  pub part_read : (rows : List (Option FieldSpec)) (n at : ℕ) (v part rest : List ℕ) → AreGood rows → PartAs rows n v part → value_at rows n at (part ++ rest) ≡ Ok (v, length part)
  part_read rows n at v part rest good is_part =
      ap (λ r. value_by r n at (part ++ rest)) is_part.1 ∙ ap (answer is_part.0 n at (length (part ++ rest))) (laws.again is_part.0 v part rest (good n is_part.0 is_part.1) is_part.2)

  pub elements_again : (rows : List (Option FieldSpec)) (at : ℕ) (es : Values) (b rest : List ℕ) → AreGood rows → Parts rows es b → elements_at rows (numbers_of es) at (b ++ rest) ≡ Ok (es, at + length b)
  elements_again rows at [] b rest good parts = ap (λ (k : ℕ). ok_of ([], k)) (sym (ap (λ (l : List ℕ). at + length l) parts ∙ omega arith))
  elements_again rows at (e ∷ es) b rest good parts =
      let part : List ℕ = parts.0 in
      let after : List ℕ = parts.1 in
      let split : b ≡ part ++ after = parts.4 in
      let regrouped : b ++ rest ≡ part ++ (after ++ rest) = ap (λ (l : List ℕ). l ++ rest) split ∙ append_assoc part after rest in
      let first : value_at rows e.0 at (b ++ rest) ≡ Ok (e.1, length part) = ap (value_at rows e.0 at) regrouped ∙ part_read rows e.0 at e.1 part (after ++ rest) good parts.2 in
      let behind : drop (length part) (b ++ rest) ≡ after ++ rest = ap (drop (length part)) regrouped ∙ drop_at part (after ++ rest) (length part) refl in
      let place : (at + length part) + length after ≡ at + length b = sym (ap (λ (l : List ℕ). at + length l) split ∙ omega (arith, length-append part after)) in
      let put = λ (x : Values × ℕ). ok_of ((e.0, e.1) ∷ x.0, x.1) in
      ap (λ r. r >>= λ (first : List ℕ × ℕ). elements_at rows (numbers_of es) (at + first.1) (drop first.1 (b ++ rest)) >>= λ others. ok_of ((e.0, first.0) ∷ others.0, others.1)) first
      ∙ ap (λ (l : List ℕ). elements_at rows (numbers_of es) (at + length part) l >>= put) behind
      ∙ ap (λ r. r >>= put) (elements_again rows (at + length part) es after rest good parts.3)
      ∙ ap (λ (k : ℕ). ok_of ((e.0, e.1) ∷ es, k)) place

-- an element whose part is there has a row
pub has_row : (rows : List (Option FieldSpec)) (es : Values) (b : List ℕ) (k : ℕ) → Parts rows es b → has es k ≡ true → is_some (row_at rows k) ≡ true
has_row rows [] b k parts h = absurd cc
has_row rows (e ∷ es) b k parts h =
    elim (cases_eq e.0 k) [
      | inl same ↦ ap (λ (n : ℕ). is_some (row_at rows n)) (sym same) ∙ ap is_some parts.2.1
      | inr other ↦ has_row rows es parts.1 k parts.3 (sym (has_after e es k other) ∙ h)
    ]

-- ---- what is read are parts

-- elements were read from the front
pub record Taken (rows : List (Option FieldSpec)) (ns : List ℕ) (at : ℕ) (b : List ℕ) (es : Values) (end : ℕ) : Type 0 where
  pub used : ℕ
  pub offset : end ≡ at + used
  pub room : used ≤ length b
  pub parts : Parts rows es (take used b)
  pub numbers : numbers_of es ≡ ns

abbrev pub done : {A : Type 0} → A → Result A UnpackFault
done x = Ok x

pub bind_ok : {A B : Type 0} (r : Result A UnpackFault) (f : A → Result B UnpackFault) (y : B) → (r >>= f) ≡ Ok y → (x : A) × (r ≡ Ok x) × (f x ≡ Ok y)
bind_ok (Ok x) f y e = (x, refl, e)
bind_ok (Err d) f y e = absurd cc

pub ok_is : {A : Type 0} (x y : A) → done x ≡ done y → x ≡ y
ok_is x y e = cc

answer_ok : (s : FieldSpec) (n at len : ℕ) (o : FieldReading) (v : List ℕ) (used : ℕ) → answer s n at len o ≡ Ok (v, used) → o ≡ got v used
answer_ok s n at len (got w u) v used e = ap (λ (x : List ℕ × ℕ). got x.0 x.1) (ok_is (w, u) (v, used) e)
answer_ok s n at len more v used e = absurd cc
answer_ok s n at len (fault f) v used e = absurd cc

-- the value that was read, and its part
pub record TakenOne (rows : List (Option FieldSpec)) (n : ℕ) (b v : List ℕ) (used : ℕ) : Type 0 where
  pub room : used ≤ length b
  pub part : PartAs rows n v (take used b)

module _ (laws : PartLaws) where
  one_by : (r : Option FieldSpec) (n at : ℕ) (b v : List ℕ) (used : ℕ) → ((s : FieldSpec) → r ≡ Some s → IsGood s) → AreBytes b → value_by r n at b ≡ Ok (v, used)
      → (s : FieldSpec) × (r ≡ Some s) × (used ≤ length b) × Part s v (take used b)
  one_by None n at b v used good fits e = absurd cc
  one_by (Some s) n at b v used good fits e =
      let read = laws.taken s b v used (good s refl) fits (answer_ok s n at (length b) (part_at s b) v used e) in
      (s, refl, read.0, read.1)

  pub value_taken : (rows : List (Option FieldSpec)) (n at : ℕ) (b v : List ℕ) (used : ℕ) → AreGood rows → AreBytes b → value_at rows n at b ≡ Ok (v, used) → TakenOne rows n b v used
  value_taken rows n at b v used good fits e =
      let one = one_by (row_at rows n) n at b v used (good n) fits e in
      record { room = one.2; part = (one.0, one.1, one.3) }

  pub elements_taken : (rows : List (Option FieldSpec)) (ns : List ℕ) (at : ℕ) (b : List ℕ) (es : Values) (end : ℕ) → AreGood rows → AreBytes b → elements_at rows ns at b ≡ Ok (es, end) → Taken rows ns at b es end
  elements_taken rows [] at b es end good fits e =
      let pair = ok_is ([], at) (es, end) e in
      let none : [] ≡ es = ap (λ (x : Values × ℕ). x.0) pair in
      let place : at ≡ end = ap (λ (x : Values × ℕ). x.1) pair in
      subst (λ (l : Values). Taken rows [] at b l end) none (record { used = 0; offset = omega arith; room = omega arith; parts = refl; numbers = refl })
  elements_taken rows (n ∷ ns) at b es end good fits e =
      let put = λ (v : List ℕ). λ (x : Values × ℕ). ok_of ((n, v) ∷ x.0, x.1) in
      let one = bind_ok (value_at rows n at b) (λ x. elements_at rows ns (at + x.1) (drop x.1 b) >>= put x.0) (es, end) e in
      let v : List ℕ = one.0.0 in
      let used : ℕ = one.0.1 in
      let two = bind_ok (elements_at rows ns (at + used) (drop used b)) (put v) (es, end) one.2 in
      let tail : Values = two.0.0 in
      let made = ok_is ((n, v) ∷ tail, two.0.1) (es, end) two.2 in
      let part = value_taken rows n at b v used good fits one.1 in
      let others = elements_taken rows ns (at + used) (drop used b) tail two.0.1 good (bytes_drop used b fits) two.1 in
      let size = used + others.used in
      let room : size ≤ length b = omega (arith, part.room, others.room, length-drop used b) in
      let split = take-add used others.used b in
      let parts : Parts rows ((n, v) ∷ tail) (take size b) = (take used b, take others.used (drop used b), part.part, others.parts, split) in
      subst (λ (x : Values × ℕ). Taken rows (n ∷ ns) at b x.0 x.1) made (record {
        used = size;
        offset = omega (arith, others.offset);
        room = room;
        parts = parts;
        numbers = ap (λ (l : List ℕ). n ∷ l) others.numbers;
      })

-- elements that are read have the numbers
pub numbers_read : (rows : List (Option FieldSpec)) (ns : List ℕ) (at : ℕ) (b : List ℕ) (es : Values) (end : ℕ) → elements_at rows ns at b ≡ Ok (es, end) → numbers_of es ≡ ns
numbers_read rows [] at b es end e = ap (λ (x : Values × ℕ). numbers_of x.0) (sym (ok_is ([], at) (es, end) e))
numbers_read rows (n ∷ ns) at b es end e =
    let put = λ (v : List ℕ). λ (x : Values × ℕ). ok_of ((n, v) ∷ x.0, x.1) in
    let one = bind_ok (value_at rows n at b) (λ x. elements_at rows ns (at + x.1) (drop x.1 b) >>= put x.0) (es, end) e in
    let two = bind_ok (elements_at rows ns (at + one.0.1) (drop one.0.1 b)) (put one.0.0) (es, end) one.2 in
    let made = ok_is ((n, one.0.0) ∷ two.0.0, two.0.1) (es, end) two.2 in
    ap (λ (x : Values × ℕ). numbers_of x.0) (sym made) ∙ ap (λ (l : List ℕ). n ∷ l) (numbers_read rows ns (at + one.0.1) (drop one.0.1 b) two.0.0 two.0.1 two.1)
