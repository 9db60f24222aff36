-- What is found of the elements where one of them is put or left out.
use Rattle.std.proofs.Common.{◌≡◌, ◌≢◌, ℕ, Bool, true, false, cond, eqb, ltb, Option, Some, None, List, [], ◌∷◌, refl, ap, arith}
use Rattle.std.proofs.lemmas.Bool.Decides.{nat_tests}
use Rattle.iso_wire.specs.Elements.{value_in, put, without}
use Rattle.iso_wire.specs.LookUps.{ChangesAlone}
use Rattle.iso_wire.proofs.Orders.{Values}

-- what is found behind an element, or the element itself
abbrev behind : ℕ → ℕ × List ℕ → Option (List ℕ) → Option (List ℕ)
behind k e found = cond (eqb e.0 k) (Some e.1) found

-- ---- a value that is put

put_by : (t u : Bool) (n : ℕ) (v : List ℕ) (e : ℕ × List ℕ) (es : Values) → ltb e.0 n ≡ t → value_in (put n v es) n ≡ Some v
    → value_in (cond t (e ∷ put n v es) (cond u ((n, v) ∷ es) ((n, v) ∷ e ∷ es))) n ≡ Some v
put_by true u n v e es is rest = let other : eqb e.0 n ≡ false = grind (arith, nat_tests) in rw other rest
put_by false true n v e es is rest = let same : eqb n n ≡ true = grind (arith, nat_tests) in rw same refl
put_by false false n v e es is rest = let same : eqb n n ≡ true = grind (arith, nat_tests) in rw same refl

put_there : (n : ℕ) (v : List ℕ) (es : Values) → value_in (put n v es) n ≡ Some v
put_there n v [] = let same : eqb n n ≡ true = grind (arith, nat_tests) in rw same refl
put_there n v (e ∷ es) = put_by (ltb e.0 n) (eqb e.0 n) n v e es refl (put_there n v es)

beside_by : (t u : Bool) (n k : ℕ) (v : List ℕ) (e : ℕ × List ℕ) (es : Values) → eqb e.0 n ≡ u → k ≢ n → value_in (put n v es) k ≡ value_in es k
    → value_in (cond t (e ∷ put n v es) (cond u ((n, v) ∷ es) ((n, v) ∷ e ∷ es))) k ≡ value_in (e ∷ es) k
beside_by true u n k v e es same other rest = ap (behind k e) rest
beside_by false true n k v e es same other rest =
    let put : eqb n k ≡ false = grind (arith, nat_tests) in
    let was : eqb e.0 k ≡ false = grind (arith, nat_tests) in
    rw (put, was) refl
beside_by false false n k v e es same other rest = let put : eqb n k ≡ false = grind (arith, nat_tests) in rw put refl

put_beside : (n k : ℕ) (v : List ℕ) (es : Values) → k ≢ n → value_in (put n v es) k ≡ value_in es k
put_beside n k v [] other = let put : eqb n k ≡ false = grind (arith, nat_tests) in rw put refl
put_beside n k v (e ∷ es) other = beside_by (ltb e.0 n) (eqb e.0 n) n k v e es refl other (put_beside n k v es other)

pub put_alone : (n : ℕ) (v : List ℕ) (es : Values) → ChangesAlone n (Some v) es (put n v es)
put_alone n v es = (put_there n v es, λ k other. put_beside n k v es other)

-- ---- an element that is left out

gone_by : (t : Bool) (n : ℕ) (e : ℕ × List ℕ) (es : Values) → eqb e.0 n ≡ t → value_in (without n es) n ≡ None → value_in (cond t (without n es) (e ∷ without n es)) n ≡ None
gone_by true n e es is rest = rest
gone_by false n e es is rest = rw is rest

gone : (n : ℕ) (es : Values) → value_in (without n es) n ≡ None
gone n [] = refl
gone n (e ∷ es) = gone_by (eqb e.0 n) n e es refl (gone n es)

left_by : (t : Bool) (n k : ℕ) (e : ℕ × List ℕ) (es : Values) → eqb e.0 n ≡ t → k ≢ n → value_in (without n es) k ≡ value_in es k → value_in (cond t (without n es) (e ∷ without n es)) k ≡ value_in (e ∷ es) k
left_by true n k e es is other rest = let was : eqb e.0 k ≡ false = grind (arith, nat_tests) in rw was rest
left_by false n k e es is other rest = ap (behind k e) rest

left : (n k : ℕ) (es : Values) → k ≢ n → value_in (without n es) k ≡ value_in es k
left n k [] other = refl
left n k (e ∷ es) other = left_by (eqb e.0 n) n k e es refl other (left n k es other)

pub without_alone : (n : ℕ) (es : Values) → ChangesAlone n None es (without n es)
without_alone n es = (gone n es, λ k other. left n k es other)
