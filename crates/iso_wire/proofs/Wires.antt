-- Finding the bodies of elements one after the other, as a loop does, and looking one up.
use Rattle.std.proofs.Common.{◌≡◌, ℕ, zero, suc, ◌+◌, ◌-◌, ◌*◌, ◌≤◌, ◌<◌, Bool, true, false, cond, eqb, leb, List, [], ◌∷◌, ◌++◌, length, take, drop, set, Option, Some, None, Result, Ok, Err, IfOk, refl, sym, ap, subst, ◌∙◌, append_assoc, arith, inl, inr}
use Rattle.std.proofs.lemmas.Bool.{cases_eq, cond-true, cond-false, and_parts, leb-true, eqb-true}
use Rattle.std.proofs.lemmas.Bool.Decides.{nat_tests}
use Rattle.std.proofs.lemmas.List.{drop-drop, length-drop, length-take-le, get_or-set_same, get_or-set_other}
use Rattle.iso_wire.specs.Viewing.{front_of, starts_of}
use Rattle.iso_parts.specs.declared.spec.FieldSpec.{FieldSpec}
use Rattle.iso_parts.specs.declared.encoding.Coding.{Coding}
use Rattle.iso_parts.specs.declared.encoding.Coding.TheVariants as codings
use Rattle.iso_parts.specs.declared.digits.Digits.TheVariants as digits
use Rattle.iso_parts.specs.declared.prefix.Length.{Length}
use Rattle.iso_parts.specs.declared.prefix.Length.TheVariants as lengths
use Rattle.iso_parts.specs.Bitmap.{in_words, contains, AreElements}
use Rattle.iso_parts.specs.PartLaws.{PartLaws, IsUpTo}
use Rattle.iso_parts.specs.Reading.{got, prefix_size, body_size, part_at}
use Rattle.iso_parts.specs.Spec.{IsGood, limit, longest_value}
use Rattle.iso_table.specs.Layout.{row_at}
use Rattle.iso_wire.specs.declared.bodies.Bodies.{Bodies}
use Rattle.iso_wire.specs.declared.fault.UnpackFault.{UnpackFault}
use Rattle.iso_parts.specs.declared.bitmap.Bitmap.{Bitmap}
use Rattle.iso_wire.specs.Elements.{value_in}
use Rattle.iso_parts.specs.Numbers.{numbers}
use Rattle.iso_wire.specs.Reading.{◌>>=◌, value_at}
use Rattle.iso_wire.specs.Bodies.{longest_part, start_at, body_size_at, body_in, wire_of, wires_in, start_of, starts_in, IsBodyWithin, AreWithin, wire_at, wires_at}
use Rattle.iso_parts.specs.Numbers.{members}
use Rattle.iso_wire.proofs.NumberLaws.{one_more, no_more, no_numbers}
use Rattle.iso_wire.proofs.Loop.{with_front}
use Rattle.iso_wire.proofs.Orders.{Values}

regroup : (front : Values) (e : ℕ × List ℕ) (read : Result (Values × ℕ) UnpackFault) → with_front front (read >>= λ x. Ok (e ∷ x.0, x.1)) ≡ with_front (front ++ e ∷ []) read
regroup front e (Ok x) = ap (λ (es : Values). Ok (es, x.1)) (simp append_assoc)
regroup front e (Err f) = refl

abbrev behind : List (Option FieldSpec) → List ℕ → ℕ → ℕ → List ℕ → List ℕ × ℕ → Result (Values × ℕ) UnpackFault
behind rows ns n at b first = wires_at rows ns (at + first.1) (drop first.1 b) >>= λ x. Ok ((n, wire_at (row_at rows n) b first.1) ∷ x.0, x.1)

goes_on : (rows : List (Option FieldSpec)) (front : Values) (old ns : List ℕ) (n at : ℕ) (b : List ℕ) (first : List ℕ × ℕ) (total : Result (Values × ℕ) UnpackFault) → old ≡ n ∷ ns → value_at rows n at b ≡ Ok first
    → with_front front (wires_at rows old at b) ≡ total → with_front (front ++ (n, wire_at (row_at rows n) b first.1) ∷ []) (wires_at rows ns (at + first.1) (drop first.1 b)) ≡ total
goes_on rows front old ns n at b first total is read so_far =
    sym (ap (λ (l : List ℕ). with_front front (wires_at rows l at b)) is
    ∙ ap (λ r. with_front front (r >>= behind rows ns n at b)) read
    ∙ regroup front (n, wire_at (row_at rows n) b first.1) (wires_at rows ns (at + first.1) (drop first.1 b))) ∙ so_far

-- ---- numbers in ascending order

-- the numbers ascend from low on, up to 128
abbrev pub Ascends : ℕ → List ℕ → Type 0
Ascends low [] = Unit {0}
Ascends low (n ∷ ns) = (low ≤ n) × (n ≤ 128) × Ascends (n + 1) ns

-- each number is below
abbrev pub AreBelow : ℕ → List ℕ → Type 0
AreBelow high [] = Unit {0}
AreBelow high (n ∷ ns) = (n < high) × AreBelow high ns

ascends_from : (low high : ℕ) (ns : List ℕ) → low ≤ high → Ascends high ns → Ascends low ns
ascends_from low high [] le h = tt
ascends_from low high (n ∷ ns) le h = (omega (arith, h.0), h.1, h.2)

ascend_by : (is : Bool) (set : ℕ → Bool) (count n : ℕ) → set n ≡ is → n + suc count ≡ 129 → Ascends (n + 1) (numbers set count (n + 1)) → Ascends n (numbers set (suc count) n)
ascend_by true set count n is whole rest = subst (Ascends n) (sym (one_more set count n is)) (omega arith, omega arith, rest)
ascend_by false set count n is whole rest = subst (Ascends n) (sym (no_more set count n is)) (ascends_from n (n + 1) (numbers set count (n + 1)) (omega arith) rest)

pub numbers_ascend : (set : ℕ → Bool) (count n : ℕ) → n + count ≡ 129 → Ascends n (numbers set count n)
numbers_ascend set zero n whole = subst (Ascends n) (sym (no_numbers set n)) tt
numbers_ascend set (suc count) n whole = ascend_by (set n) set count n refl whole (numbers_ascend set count (n + 1) (omega arith))

pub left_ascend : (walk : Bitmap) → Ascends 2 (members walk)
left_ascend walk = numbers_ascend (in_words walk.primary walk.secondary) 127 2 (omega arith)

below_more : (low high : ℕ) (ns : List ℕ) → low ≤ high → AreBelow low ns → AreBelow high ns
below_more low high [] le h = tt
below_more low high (n ∷ ns) le h = (omega (arith, h.0), below_more low high ns le h.1)

below_next : (n : ℕ) (done : List ℕ) → AreBelow n done → AreBelow (n + 1) (done ++ n ∷ [])
below_next n [] h = (omega arith, tt)
below_next n (k ∷ done) h = (omega (arith, h.0), below_next n done h.1)

-- ---- where bodies lie

-- a body's place is put at a number
abbrev pub with_body : Bodies → ℕ → ℕ → ℕ → Bodies
with_body bodies n start size = record { starts = set bodies.starts n start; sizes = set bodies.sizes n size }

-- which leaves those of the numbers below
start_stays : (bodies : Bodies) (n k start size : ℕ) → k < n → start_at (with_body bodies n start size) k ≡ start_at bodies k
start_stays bodies n k start size less = get_or-set_other bodies.starts n k start 0 (λ e. omega (arith, less))

size_stays : (bodies : Bodies) (n k start size : ℕ) → k < n → body_size_at (with_body bodies n start size) k ≡ body_size_at bodies k
size_stays bodies n k start size less = get_or-set_other bodies.sizes n k size 0 (λ e. omega (arith, less))

wires_stay : (b : List ℕ) (bodies : Bodies) (done : List ℕ) (n start size : ℕ) → AreBelow n done → wires_in b (with_body bodies n start size) done ≡ wires_in b bodies done
wires_stay b bodies [] n start size below = refl
wires_stay b bodies (k ∷ done) n start size below =
    let front = start_stays bodies n k start size below.0 in
    let many = size_stays bodies n k start size below.0 in
    ap (λ (i : ℕ). (k, take i (drop (start_at (with_body bodies n start size) k) b)) ∷ wires_in b (with_body bodies n start size) done) many
    ∙ ap (λ (i : ℕ). (k, take (body_size_at bodies k) (drop i b)) ∷ wires_in b (with_body bodies n start size) done) front
    ∙ ap (λ (l : Values). wire_of b bodies k ∷ l) (wires_stay b bodies done n start size below.1)

within_stay : (all : ℕ) (bodies : Bodies) (done : List ℕ) (n start size : ℕ) → AreBelow n done → AreWithin all bodies done → AreWithin all (with_body bodies n start size) done
within_stay all bodies [] n start size below h = tt
within_stay all bodies (k ∷ done) n start size below h =
    (omega (arith, h.0, start_stays bodies n k start size below.0, size_stays bodies n k start size below.0), within_stay all bodies done n start size below.1 h.1)

wires_append : (b : List ℕ) (bodies : Bodies) (done : List ℕ) (n : ℕ) → wires_in b bodies (done ++ n ∷ []) ≡ wires_in b bodies done ++ wire_of b bodies n ∷ []
wires_append b bodies [] n = refl
wires_append b bodies (k ∷ done) n = ap (λ (l : Values). wire_of b bodies k ∷ l) (wires_append b bodies done n)

starts_stay : (bodies : Bodies) (done : List ℕ) (n start size : ℕ) → AreBelow n done → starts_in (with_body bodies n start size) done ≡ starts_in bodies done
starts_stay bodies [] n start size below = refl
starts_stay bodies (k ∷ done) n start size below =
    ap (λ (i : ℕ). (k, i) ∷ starts_in (with_body bodies n start size) done) (start_stays bodies n k start size below.0)
    ∙ ap (λ (l : List (ℕ × ℕ)). start_of bodies k ∷ l) (starts_stay bodies done n start size below.1)

starts_append : (bodies : Bodies) (done : List ℕ) (n : ℕ) → starts_in bodies (done ++ n ∷ []) ≡ starts_in bodies done ++ start_of bodies n ∷ []
starts_append bodies [] n = refl
starts_append bodies (k ∷ done) n = ap (λ (l : List (ℕ × ℕ)). start_of bodies k ∷ l) (starts_append bodies done n)

-- what lies within some bytes lies within more
within_more : (small large : ℕ) (bodies : Bodies) (ns : List ℕ) → small ≤ large → AreWithin small bodies ns → AreWithin large bodies ns
within_more small large bodies [] le h = tt
within_more small large bodies (n ∷ ns) le h = (omega (arith, h.0, le), within_more small large bodies ns le h.1)

within_append : (all : ℕ) (bodies : Bodies) (done : List ℕ) (n : ℕ) → AreWithin all bodies done → IsBodyWithin all bodies n → AreWithin all bodies (done ++ n ∷ [])
within_append all bodies [] n h le = (le, tt)
within_append all bodies (k ∷ done) n h le = (h.0, within_append all bodies done n h.1 le)

-- ---- the loop

-- the bodies that were found begin where they lie, whichever follow
abbrev pub BegunAt : List (Option FieldSpec) → ℕ → List ℕ → Bodies → List ℕ → ℕ → Type 0
BegunAt rows first b bodies done at = (ws : Values) → starts_of rows first (wires_in b bodies done ++ ws) ≡ starts_in bodies done ++ starts_of rows at ws

begun_next : (rows : List (Option FieldSpec)) (first : ℕ) (b : List ℕ) (bodies new : Bodies) (done : List ℕ) (n at start used : ℕ) (w : List ℕ) → BegunAt rows first b bodies done at
    → wires_in b new (done ++ n ∷ []) ≡ wires_in b bodies done ++ (n, w) ∷ [] → starts_in new (done ++ n ∷ []) ≡ starts_in bodies done ++ (n, start) ∷ []
    → start ≡ at + front_of (row_at rows n) → start + length w ≡ at + used → BegunAt rows first b new (done ++ n ∷ []) (at + used)
begun_next rows first b bodies new done n at start used w begun wires starts begins ends = λ ws.
    ap (λ (l : Values). starts_of rows first (l ++ ws)) wires ∙ ap (starts_of rows first) (append_assoc (wires_in b bodies done) ((n, w) ∷ []) ws) ∙ begun ((n, w) ∷ ws)
    ∙ ap (λ (k : ℕ). starts_in bodies done ++ (n, k) ∷ starts_of rows (k + length w) ws) (sym begins)
    ∙ ap (λ (k : ℕ). starts_in bodies done ++ (n, start) ∷ starts_of rows k ws) ends
    ∙ sym (append_assoc (starts_in bodies done) ((n, start) ∷ []) (starts_of rows (at + used) ws))
    ∙ ap (λ (l : List (ℕ × ℕ)). l ++ starts_of rows (at + used) ws) (sym starts)

-- the numbers that were done, and what holds of them and of those to come
pub record BodiesFound (rows : List (Option FieldSpec)) (first : ℕ) (b : List ℕ) (bodies : Bodies) (old ns : List ℕ) (at : ℕ) (total : Result (Values × ℕ) UnpackFault) : Type 0 where
  pub done : List ℕ
  pub next : ℕ
  pub numbers : done ++ ns ≡ old
  pub below : AreBelow next done
  pub above : Ascends next ns
  pub read : with_front (wires_in b bodies done) (wires_at rows ns at (drop at b)) ≡ total
  pub within : AreWithin at bodies done
  pub begun : BegunAt rows first b bodies done at

pub found_first : (rows : List (Option FieldSpec)) (b : List ℕ) (bodies : Bodies) (old : List ℕ) (at : ℕ) (total : Result (Values × ℕ) UnpackFault) → Ascends 2 old → wires_at rows old at (drop at b) ≡ total → BodiesFound rows at b bodies old old at total
found_first rows b bodies old at total asc is = record {
  done = [];
  next = 2;
  numbers = refl;
  below = tt;
  above = asc;
  read = nothing (wires_at rows old at (drop at b)) ∙ is;
  within = tt;
  begun = λ ws. refl;
}
  where
    nothing : (r : Result (Values × ℕ) UnpackFault) → with_front [] r ≡ r
    nothing (Ok x) = refl
    nothing (Err e) = refl

pub found_next : (rows : List (Option FieldSpec)) (first : ℕ) (b : List ℕ) (bodies : Bodies) (old ns rest v : List ℕ) (n at body used start size : ℕ) (total : Result (Values × ℕ) UnpackFault) → BodiesFound rows first b bodies old ns at total
    → ns ≡ n ∷ rest → length bodies.starts ≡ 129 → length bodies.sizes ≡ 129 → body ≡ front_of (row_at rows n) → value_at rows n at (drop at b) ≡ Ok (v, used) → start ≡ at + body → size ≡ used - body → body ≤ used → at + used ≤ length b
    → BodiesFound rows first b (with_body bodies n start size) old rest (at + used) total
found_next rows first b bodies old ns rest v n at body used start size total h is starts sizes front read begins many inner room =
    let above : Ascends h.next (n ∷ rest) = subst (Ascends h.next) is h.above in
    let below : AreBelow n h.done = below_more h.next n h.done above.0 h.below in
    let new : Bodies = with_body bodies n start size in
    let new_start : start_at new n ≡ start = get_or-set_same bodies.starts n start 0 (omega (arith, above.1)) in
    let new_size : body_size_at new n ≡ size = get_or-set_same bodies.sizes n size 0 (omega (arith, above.1)) in
    let wire : wire_of b new n ≡ (n, wire_at (row_at rows n) (drop at b) used) =
    ap (λ (k : ℕ). (n, take k (drop (start_at new n) b))) (new_size ∙ many) ∙ ap (λ (k : ℕ). (n, take (used - body) (drop k b))) (new_start ∙ begins)
    ∙ ap (λ (l : List ℕ). (n, take (used - body) l)) (sym (drop-drop body at b)) ∙ ap (λ (k : ℕ). (n, take (used - k) (drop k (drop at b)))) front in
    let wires : wires_in b new (h.done ++ n ∷ []) ≡ wires_in b bodies h.done ++ (n, wire_at (row_at rows n) (drop at b) used) ∷ [] =
    wires_append b new h.done n ∙ ap (λ (l : Values). l ++ wire_of b new n ∷ []) (wires_stay b bodies h.done n start size below) ∙ ap (λ (e : ℕ × List ℕ). wires_in b bodies h.done ++ e ∷ []) wire in
    let w : List ℕ = wire_at (row_at rows n) (drop at b) used in
    let found : starts_in new (h.done ++ n ∷ []) ≡ starts_in bodies h.done ++ (n, start) ∷ [] =
    starts_append new h.done n ∙ ap (λ (l : List (ℕ × ℕ)). l ++ start_of new n ∷ []) (starts_stay bodies h.done n start size below) ∙ ap (λ (k : ℕ). starts_in bodies h.done ++ (n, k) ∷ []) new_start in
    let long : length w ≡ used - front_of (row_at rows n) = length-take-le (used - front_of (row_at rows n)) (drop (front_of (row_at rows n)) (drop at b))
    (omega (arith, length-drop (front_of (row_at rows n)) (drop at b), length-drop at b, room, front, inner)) in
    record {
      done = h.done ++ n ∷ [];
      next = n + 1;
      numbers = append_assoc h.done (n ∷ []) rest ∙ ap (λ (l : List ℕ). h.done ++ l) (sym is) ∙ h.numbers;
      below = below_next n h.done below;
      above = above.2;
      read = ap (λ (l : Values). with_front l (wires_at rows rest (at + used) (drop (at + used) b))) wires
          ∙ ap (λ (l : List ℕ). with_front (wires_in b bodies h.done ++ (n, wire_at (row_at rows n) (drop at b) used) ∷ []) (wires_at rows rest (at + used) l)) (sym (drop-drop used at b))
          ∙ goes_on rows (wires_in b bodies h.done) ns rest n at (drop at b) (v, used) total is read h.read;
      within = within_append (at + used) new h.done n (within_more at (at + used) new h.done (omega arith) (within_stay at bodies h.done n start size below h.within)) (omega (arith, new_start, new_size, begins, many, inner));
      begun = begun_next rows first b bodies new h.done n at start used w h.begun wires found (begins ∙ ap (λ (k : ℕ). at + k) front) (omega (arith, long, begins, front, inner));
    }

-- ---- the body of one element

body_by : (is : Bool) (b : List ℕ) (bodies : Bodies) (set : ℕ → Bool) (count n k : ℕ) → set n ≡ is → n ≤ k → k < n + suc count → set k ≡ true
    → (n + 1 ≤ k → k < n + 1 + count → value_in (wires_in b bodies (numbers set count (n + 1))) k ≡ Some (body_in b bodies k)) → value_in (wires_in b bodies (numbers set (suc count) n)) k ≡ Some (body_in b bodies k)
body_by false b bodies set count n k is low high here rest =
    elim (cases_eq n k) [
      | inl same ↦ absurd (let both : true ≡ false = sym here ∙ ap set (sym same) ∙ is in cc)
      | inr other ↦ ap (λ (l : List ℕ). value_in (wires_in b bodies l) k) (no_more set count n is) ∙ rest (omega arith) (omega arith)
    ]
body_by true b bodies set count n k is low high here rest =
    elim (cases_eq n k) [
      | inl same ↦
          let t : eqb n k ≡ true = grind (arith, nat_tests) in
          ap (λ (l : List ℕ). value_in (wires_in b bodies l) k) (one_more set count n is) ∙ cond-true (eqb n k) (Some (body_in b bodies n)) (value_in (wires_in b bodies (numbers set count (n + 1))) k) t
          ∙ ap (λ (m : ℕ). Some (body_in b bodies m)) same
      | inr other ↦
          let t : eqb n k ≡ false = grind (arith, nat_tests) in
          ap (λ (l : List ℕ). value_in (wires_in b bodies l) k) (one_more set count n is) ∙ cond-false (eqb n k) (Some (body_in b bodies n)) (value_in (wires_in b bodies (numbers set count (n + 1))) k) t
          ∙ rest (omega arith) (omega arith)
    ]

body_there : (b : List ℕ) (bodies : Bodies) (set : ℕ → Bool) (count n k : ℕ) → n ≤ k → k < n + count → set k ≡ true → value_in (wires_in b bodies (numbers set count n)) k ≡ Some (body_in b bodies k)
body_there b bodies set zero n k low high here = absurd (omega arith)
body_there b bodies set (suc count) n k low high here = body_by (set n) b bodies set count n k refl low high here (λ low high. body_there b bodies set count (n + 1) k low high here)

none_by : (is : Bool) (b : List ℕ) (bodies : Bodies) (set : ℕ → Bool) (count n k : ℕ) → set n ≡ is → (n ≤ k → k < n + suc count → set k ≡ true → ⊥)
    → value_in (wires_in b bodies (numbers set count (n + 1))) k ≡ None → value_in (wires_in b bodies (numbers set (suc count) n)) k ≡ None
none_by false b bodies set count n k is absent rest = ap (λ (l : List ℕ). value_in (wires_in b bodies l) k) (no_more set count n is) ∙ rest
none_by true b bodies set count n k is absent rest =
    elim (cases_eq n k) [
      | inl same ↦ absurd (absent (omega arith) (omega arith) (ap set (sym same) ∙ is))
      | inr other ↦
          let t : eqb n k ≡ false = grind (arith, nat_tests) in
          ap (λ (l : List ℕ). value_in (wires_in b bodies l) k) (one_more set count n is) ∙ cond-false (eqb n k) (Some (body_in b bodies n)) (value_in (wires_in b bodies (numbers set count (n + 1))) k) t
          ∙ rest
    ]

body_absent : (b : List ℕ) (bodies : Bodies) (set : ℕ → Bool) (count n k : ℕ) → (n ≤ k → k < n + count → set k ≡ true → ⊥) → value_in (wires_in b bodies (numbers set count n)) k ≡ None
body_absent b bodies set zero n k absent = ap (λ (l : List ℕ). value_in (wires_in b bodies l) k) (no_numbers set n)
body_absent b bodies set (suc count) n k absent = none_by (set n) b bodies set count n k refl absent (body_absent b bodies set count (n + 1) k (λ low high. absent (omega arith) (omega arith)))

within_by : (is : Bool) (size : ℕ) (bodies : Bodies) (set : ℕ → Bool) (count n k : ℕ) → set n ≡ is → set k ≡ true → n ≤ k → AreWithin size bodies (numbers set (suc count) n)
    → (n + 1 ≤ k → AreWithin size bodies (numbers set count (n + 1)) → IsBodyWithin size bodies k) → IsBodyWithin size bodies k
within_by false size bodies set count n k is here low h rest =
    elim (cases_eq n k) [
      | inl same ↦ absurd (let both : true ≡ false = sym here ∙ ap set (sym same) ∙ is in cc)
      | inr other ↦ rest (omega arith) (subst (AreWithin size bodies) (no_more set count n is) h)
    ]
within_by true size bodies set count n k is here low h rest =
    let all : AreWithin size bodies (n ∷ numbers set count (n + 1)) = subst (AreWithin size bodies) (one_more set count n is) h in
    elim (cases_eq n k) [
      | inl same ↦ subst (λ (m : ℕ). IsBodyWithin size bodies m) same all.0
      | inr other ↦ rest (omega arith) all.1
    ]

within_there : (size : ℕ) (bodies : Bodies) (set : ℕ → Bool) (count n k : ℕ) → n ≤ k → k < n + count → set k ≡ true → AreWithin size bodies (numbers set count n) → IsBodyWithin size bodies k
within_there size bodies set zero n k low high here h = absurd (omega arith)
within_there size bodies set (suc count) n k low high here h = within_by (set n) size bodies set count n k refl here low h (λ low all. within_there size bodies set count (n + 1) k low (omega arith) here all)

pub set_body : (set : Bitmap) (b : List ℕ) (bodies : Bodies) (k : ℕ) → AreElements (contains set) → contains set k ≡ true → value_in (wires_in b bodies (members set)) k ≡ Some (body_in b bodies k)
set_body set b bodies k elements is = let there = elements k is in body_there b bodies (in_words set.primary set.secondary) 127 2 k there.0 (omega (arith, there.1)) is

pub set_within : (set : Bitmap) (size : ℕ) (bodies : Bodies) (k : ℕ) → AreElements (contains set) → contains set k ≡ true → AreWithin size bodies (members set) → IsBodyWithin size bodies k
set_within set size bodies k elements is h = let there = elements k is in within_there size bodies (in_words set.primary set.secondary) 127 2 k there.0 (omega (arith, there.1)) is h

pub set_absent : (set : Bitmap) (b : List ℕ) (bodies : Bodies) (k : ℕ) → contains set k ≡ false → value_in (wires_in b bodies (members set)) k ≡ None
set_absent set b bodies k is = body_absent b bodies (in_words set.primary set.secondary) 127 2 k (λ low high there. let both : true ≡ false = sym there ∙ is in cc)

start_by : (is : Bool) (b : List ℕ) (bodies : Bodies) (ns v : List ℕ) (n k : ℕ) → eqb n k ≡ is → cond is (Some (body_in b bodies n)) (value_in (wires_in b bodies ns) k) ≡ Some v
    → (value_in (wires_in b bodies ns) k ≡ Some v → value_in (starts_in bodies ns) k ≡ Some (start_at bodies k)) → value_in (starts_in bodies (n ∷ ns)) k ≡ Some (start_at bodies k)
start_by true b bodies ns v n k is there rest = rw is (ap (λ (m : ℕ). Some (start_at bodies m)) (eqb-true n k is))
start_by false b bodies ns v n k is there rest = rw is (rest there)

-- where a body is there, it begins at its place
pub start_there : (b : List ℕ) (bodies : Bodies) (ns v : List ℕ) (k : ℕ) → value_in (wires_in b bodies ns) k ≡ Some v → value_in (starts_in bodies ns) k ≡ Some (start_at bodies k)
start_there b bodies [] v k there = absurd cc
start_there b bodies (n ∷ ns) v k there = start_by (eqb n k) b bodies ns v n k refl there (start_there b bodies ns v k)

-- ---- there are at most 127 numbers

few_by : (is : Bool) (set : ℕ → Bool) (count n : ℕ) → set n ≡ is → length (numbers set count (n + 1)) ≤ count → length (numbers set (suc count) n) ≤ suc count
few_by true set count n is rest = omega (arith, ap length (one_more set count n is))
few_by false set count n is rest = omega (arith, ap length (no_more set count n is))

pub few_numbers : (set : ℕ → Bool) (count n : ℕ) → length (numbers set count n) ≤ count
few_numbers set zero n = omega (arith, ap length (no_numbers set n))
few_numbers set (suc count) n = few_by (set n) set count n refl (few_numbers set count (n + 1))

pub few_left : (walk : Bitmap) → length (members walk) ≤ 127
few_left walk = few_numbers (in_words walk.primary walk.secondary) 127 2

-- ---- the longest part

limit_few : (k : Length) → limit k ≤ longest_value
limit_few lengths.Fixed = omega arith
limit_few (lengths.LL d) = omega arith
limit_few (lengths.LLL d) = omega arith
limit_few (lengths.LLLL d) = omega arith

front_few : (k : Length) → prefix_size k ≤ 4
front_few lengths.Fixed = omega arith
front_few (lengths.LL digits.Ascii) = omega arith
front_few (lengths.LL digits.Bcd) = omega arith
front_few (lengths.LLL digits.Ascii) = omega arith
front_few (lengths.LLL digits.Bcd) = omega arith
front_few (lengths.LLLL digits.Ascii) = omega arith
front_few (lengths.LLLL digits.Bcd) = omega arith

body_few : (c : Coding) (n : ℕ) → n ≤ longest_value → body_size c n ≤ 2 * longest_value
body_few codings.Ascii n le = omega arith
body_few codings.Raw n le = omega arith
body_few codings.Bcd n le = omega arith
body_few codings.HexText n le = omega arith

pub part_few : (s : FieldSpec) → IsGood s → prefix_size s.length + body_size s.coding s.max ≤ longest_part
part_few s good =
    let max : s.max ≤ limit s.length = leb-true s.max (limit s.length) (and_parts (leb 1 s.max) (leb s.max (limit s.length)) good.max).1 in
    omega (arith, max, limit_few s.length, front_few s.length, body_few s.coding s.max (omega (arith, max, limit_few s.length)))

-- a part that was read is no longer
pub got_few : (laws : PartLaws) (s : FieldSpec) (b v : List ℕ) (used : ℕ) → IsGood s → part_at s b ≡ got v used → used ≤ longest_part
got_few laws s b v used good is =
    let most = subst (IsUpTo (prefix_size s.length + body_size s.coding s.max) (length b)) is (laws.most s b) in
    omega (arith, most, part_few s good)

pub judged_few : (laws : PartLaws) (s : FieldSpec) (b : List ℕ) (r : Result (ℕ × ℕ) UnpackFault) → IsGood s → IfOk r (λ x. (v : List ℕ) × (part_at s b ≡ got v x.1)) → IfOk r (λ x. x.1 ≤ longest_part)
judged_few laws s b (Ok x) good read = got_few laws s b read.0 x.1 good read.1
judged_few laws s b (Err e) good read = tt
