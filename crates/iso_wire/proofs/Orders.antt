-- Elements in ascending order: what is put, left out and found.
use Rattle.std.proofs.Common.{◌≡◌, ◌≢◌, ℕ, ◌+◌, ◌<◌, ◌≤◌, Bool, true, false, cond, eqb, ltb, Some, List, [], ◌∷◌, ◌++◌, map, refl, ap, subst, ◌∙◌, arith}
use Rattle.std.proofs.lemmas.Bool.{eqb-true, ltb-true}
use Rattle.std.proofs.lemmas.Bool.Decides.{nat_tests}
use Rattle.iso_parts.specs.Numbers.{is_element}
use Rattle.iso_wire.specs.Elements.{value_in, IsAscending, IsBelow, put, without}
use Rattle.iso_wire.specs.Ends.{IsAbove}

abbrev pub Values : Type 0
Values = List (ℕ × List ℕ)

-- the numbers of a message's elements
abbrev pub numbers_of : Values → List ℕ
numbers_of es = map (λ e. e.0) es

-- ---- bounds

-- what the test of a number says
pub IsAscending-one : (n : ℕ) (v : List ℕ) → is_element n ≡ true → IsAscending 2 ((n, v) ∷ [])
IsAscending-one n v good = (grind (arith, nat_tests), grind (arith, nat_tests), (λ same. grind (arith, nat_tests)), tt)

pub IsAscending-from : (low high : ℕ) (es : Values) → low ≤ high → IsAscending high es → IsAscending low es
IsAscending-from low high [] le asc = tt
IsAscending-from low high (e ∷ es) le asc = (omega arith, asc.1, asc.2, asc.3)

pub IsAscending-behind : (low : ℕ) (xs ys : Values) → IsAscending low (xs ++ ys) → IsAscending low ys
IsAscending-behind low [] ys asc = asc
IsAscending-behind low (e ∷ xs) ys asc = IsAscending-from low (e.0 + 1) ys (omega arith) (IsAscending-behind (e.0 + 1) xs ys asc.3)

pub IsAscending-push : (low n : ℕ) (v : List ℕ) (es : Values) → low ≤ n → n ≤ 128 → n ≢ 65 → IsBelow n es → IsAscending low es → IsAscending low (es ++ (n, v) ∷ [])
IsAscending-push low n v [] le high other below asc = (le, high, other, tt)
IsAscending-push low n v (e ∷ es) le high other below asc = (asc.0, asc.1, asc.2, IsAscending-push (e.0 + 1) n v es (omega arith) high other below.1 asc.3)

-- ---- a value that is put

ascending_by : (t u : Bool) (low n : ℕ) (v : List ℕ) (e : ℕ × List ℕ) (es : Values) → ltb e.0 n ≡ t → eqb e.0 n ≡ u → low ≤ n → n ≤ 128 → n ≢ 65 → IsAscending low (e ∷ es) → (e.0 + 1 ≤ n → IsAscending (e.0 + 1) (put n v es))
    → IsAscending low (cond t (e ∷ put n v es) (cond u ((n, v) ∷ es) ((n, v) ∷ e ∷ es)))
ascending_by true u low n v e es is same le high other asc more_of = (asc.0, asc.1, asc.2, more_of (let lt : e.0 < n = ltb-true e.0 n is in omega arith))
ascending_by false true low n v e es is same le high other asc more_of = (le, high, other, subst (λ (k : ℕ). IsAscending (k + 1) es) (eqb-true e.0 n same) asc.3)
ascending_by false false low n v e es is same le high other asc more_of = (le, high, other, (let ne : n + 1 ≤ e.0 = grind (arith, nat_tests) in (ne, asc.1, asc.2, asc.3)))

-- the elements still ascend
pub IsAscending-put : (low n : ℕ) (v : List ℕ) (es : Values) → low ≤ n → n ≤ 128 → n ≢ 65 → IsAscending low es → IsAscending low (put n v es)
IsAscending-put low n v [] le high other asc = (le, high, other, tt)
IsAscending-put low n v (e ∷ es) le high other asc = ascending_by (ltb e.0 n) (eqb e.0 n) low n v e es refl refl le high other asc (λ lt. IsAscending-put (e.0 + 1) n v es lt high other asc.3)

-- between those below and those above
pub put-between : (n : ℕ) (v : List ℕ) (xs ys : Values) → IsBelow n xs → IsAbove n ys → put n v (xs ++ ys) ≡ xs ++ (n, v) ∷ ys
put-between n v [] [] below above = refl
put-between n v [] (e ∷ es) below above =
    let t : ltb e.0 n ≡ false = grind (arith, nat_tests) in
    let u : eqb e.0 n ≡ false = grind (arith, nat_tests) in
    rw (t, u) refl
put-between n v (e ∷ xs) ys below above =
    let t : ltb e.0 n ≡ true = grind (arith, nat_tests) in
    rw t (ap (λ (l : Values). e ∷ l) (put-between n v xs ys below.1 above))

-- in place of the one that was there
pub put-there : (n : ℕ) (v w : List ℕ) (xs ys : Values) → IsBelow n xs → put n v (xs ++ (n, w) ∷ ys) ≡ xs ++ (n, v) ∷ ys
put-there n v w [] ys below =
    let t : ltb n n ≡ false = grind (arith, nat_tests) in
    let u : eqb n n ≡ true = grind (arith, nat_tests) in
    rw (t, u) refl
put-there n v w (e ∷ xs) ys below =
    let t : ltb e.0 n ≡ true = grind (arith, nat_tests) in
    rw t (ap (λ (l : Values). e ∷ l) (put-there n v w xs ys below.1))

-- ---- an element that is left out

without_by : (t : Bool) (low n : ℕ) (e : ℕ × List ℕ) (es : Values) → IsAscending low (e ∷ es) → IsAscending (e.0 + 1) (without n es) → IsAscending low (cond t (without n es) (e ∷ without n es))
without_by true low n e es asc rest = IsAscending-from low (e.0 + 1) (without n es) (omega arith) rest
without_by false low n e es asc rest = (asc.0, asc.1, asc.2, rest)

-- the others still ascend
pub IsAscending-without : (low n : ℕ) (es : Values) → IsAscending low es → IsAscending low (without n es)
IsAscending-without low n [] asc = tt
IsAscending-without low n (e ∷ es) asc = without_by (eqb e.0 n) low n e es asc (IsAscending-without (e.0 + 1) n es asc.3)

-- none of those above has the number
pub without-above : (low n : ℕ) (es : Values) → n < low → IsAscending low es → without n es ≡ es
without-above low n [] lt asc = refl
without-above low n (e ∷ es) lt asc =
    let t : eqb e.0 n ≡ false = grind (arith, nat_tests) in
    rw t (ap (λ (l : Values). e ∷ l) (without-above (e.0 + 1) n es (omega arith) asc.3))

-- and none of those below
pub without-below : (n : ℕ) (xs ys : Values) → IsBelow n xs → without n (xs ++ ys) ≡ xs ++ without n ys
without-below n [] ys below = refl
without-below n (e ∷ xs) ys below =
    let t : eqb e.0 n ≡ false = grind (arith, nat_tests) in
    rw t (ap (λ (l : Values). e ∷ l) (without-below n xs ys below.1))

pub without-there : (n : ℕ) (w : List ℕ) (xs ys : Values) → IsBelow n xs → IsAscending (n + 1) ys → without n (xs ++ (n, w) ∷ ys) ≡ xs ++ ys
without-there n w xs ys below asc =
    let t : eqb n n ≡ true = grind (arith, nat_tests) in
    without-below n xs ((n, w) ∷ ys) below ∙ rw t (ap (λ (l : Values). xs ++ l) (without-above (n + 1) n ys (omega arith) asc))

-- ---- a value that is looked for

pub value_in-below : (n : ℕ) (xs ys : Values) → IsBelow n xs → value_in (xs ++ ys) n ≡ value_in ys n
value_in-below n [] ys below = refl
value_in-below n (e ∷ xs) ys below =
    let t : eqb e.0 n ≡ false = grind (arith, nat_tests) in
    rw t (value_in-below n xs ys below.1)

pub value_in-there : (n : ℕ) (w : List ℕ) (xs ys : Values) → IsBelow n xs → value_in (xs ++ (n, w) ∷ ys) n ≡ Some w
value_in-there n w xs ys below =
    let t : eqb n n ≡ true = grind (arith, nat_tests) in
    value_in-below n xs ((n, w) ∷ ys) below ∙ rw t refl

-- what stands behind an element ascends from its number on
pub IsAscending-after : (low n : ℕ) (w : List ℕ) (xs ys : Values) → IsAscending low (xs ++ (n, w) ∷ ys) → IsAscending (n + 1) ys
IsAscending-after low n w xs ys asc = (IsAscending-behind low xs ((n, w) ∷ ys) asc).3
