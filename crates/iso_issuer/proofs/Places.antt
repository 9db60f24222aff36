-- Places of elements in a list, as an index keeps them.
use Rattle.std.proofs.Common.{◌≡◌, ℕ, suc, ◌+◌, ◌<◌, Bool, true, false, cond, refl, arith, ap, ◌∙◌, List, [], ◌∷◌, ◌++◌, length, get_or}
use Rattle.std.specs.Prelude.{find, map, Some, None, option_map}
use Rattle.std.specs.List.{position_from}

-- a place is one of the list
pub place-below : {X : Type 0} (t : X → Bool) (i : ℕ) (xs : List X) (p : ℕ) → position_from t i xs ≡ Some p → p < i + length xs
place-below t i [] p h = cc
place-below t i (x ∷ xs) p h = by_test (t x) h (place-below t (i + 1) xs p)
  where
    by_test : (b : Bool) → cond b (Some i) (position_from t (i + 1) xs) ≡ Some p → (position_from t (i + 1) xs ≡ Some p → p < i + 1 + length xs) → p < i + length (x ∷ xs)
    by_test true h rest =
        let same : i ≡ p = cc in
        omega arith
    by_test false h rest = omega (arith, rest h)

found_from : {X : Type 0} (t : X → Bool) (i : ℕ) (xs : List X) (d : X) (p : ℕ) → position_from t i xs ≡ Some p →
    (k : ℕ) × (p ≡ i + k) × (find t xs ≡ Some (get_or xs k d))
found_from t i [] d p h = cc
found_from t i (x ∷ xs) d p h = by_test (t x) h (found_from t (i + 1) xs d p)
  where
    by_test : (b : Bool) → cond b (Some i) (position_from t (i + 1) xs) ≡ Some p →
        (position_from t (i + 1) xs ≡ Some p → (k : ℕ) × (p ≡ i + 1 + k) × (find t xs ≡ Some (get_or xs k d))) →
        (k : ℕ) × (p ≡ i + k) × (cond b (Some x) (find t xs) ≡ Some (get_or (x ∷ xs) k d))
    by_test true h rest =
        let same : i ≡ p = cc in
        let start : p ≡ i + 0 = omega arith in
        (0, start, refl)
    by_test false h rest =
        let r = rest h in
        let next : p ≡ i + suc r.0 = omega (arith, r.1) in
        (suc r.0, next, r.2)

-- what is found stands at its place
pub found-at : {X : Type 0} (t : X → Bool) (xs : List X) (d : X) (p : ℕ) → position_from t 0 xs ≡ Some p → find t xs ≡ Some (get_or xs p d)
found-at t xs d p h =
    let r = found_from t 0 xs d p h in
    let same : r.0 ≡ p = omega (arith, r.1) in
    r.2 ∙ ap (λ (k : ℕ). Some (get_or xs k d)) same

-- places among pictures are those of what is pictured
pub place-map : {X Y : Type 0} (t : Y → Bool) (f : X → Y) (i : ℕ) (xs : List X) → position_from t i (map f xs) ≡ position_from (λ x. t (f x)) i xs
place-map t f i [] = refl
place-map t f i (x ∷ xs) = ap (cond (t (f x)) (Some i)) (place-map t f (i + 1) xs)

pub found-map : {X Y : Type 0} (t : Y → Bool) (f : X → Y) (xs : List X) → find t (map f xs) ≡ option_map f (find (λ x. t (f x)) xs)
found-map t f [] = refl
found-map t f (x ∷ xs) = by_test (t (f x)) (found-map t f xs)
  where
    by_test : (b : Bool) → find t (map f xs) ≡ option_map f (find (λ x. t (f x)) xs) → cond b (Some (f x)) (find t (map f xs)) ≡ option_map f (cond b (Some x) (find (λ x. t (f x)) xs))
    by_test true rest = refl
    by_test false rest = rest

-- what has no place is not found
pub found-none : {X : Type 0} (t : X → Bool) (i : ℕ) (xs : List X) → position_from t i xs ≡ None → find t xs ≡ None
found-none t i [] h = refl
found-none t i (x ∷ xs) h = by_test (t x) h (found-none t (i + 1) xs)
  where
    by_test : (b : Bool) → cond b (Some i) (position_from t (i + 1) xs) ≡ None → (position_from t (i + 1) xs ≡ None → find t xs ≡ None) → cond b (Some x) (find t xs) ≡ None
    by_test true h rest = cc
    by_test false h rest = rest h

-- an element more that fails the test is found nowhere new
other_from : {X : Type 0} (t : X → Bool) (i : ℕ) (xs : List X) (y : X) → t y ≡ false → position_from t i (xs ++ y ∷ []) ≡ position_from t i xs
other_from t i [] y h = ap (λ b. cond b (Some i) None) h
other_from t i (x ∷ xs) y h = ap (cond (t x) (Some i)) (other_from t (i + 1) xs y h)

-- an element more that passes, where none passed, is found at the end
last_from : {X : Type 0} (t : X → Bool) (i : ℕ) (xs : List X) (y : X) → find t xs ≡ None → t y ≡ true → position_from t i (xs ++ y ∷ []) ≡ Some (i + length xs)
last_from t i [] y none h = ap (λ b. cond b (Some i) None) h ∙ ap Some (omega arith)
last_from t i (x ∷ xs) y none h = by_test (t x) none (λ rest. last_from t (i + 1) xs y rest h)
  where
    by_test : (b : Bool) → cond b (Some x) (find t xs) ≡ None → (find t xs ≡ None → position_from t (i + 1) (xs ++ y ∷ []) ≡ Some (i + 1 + length xs)) →
        cond b (Some i) (position_from t (i + 1) (xs ++ y ∷ [])) ≡ Some (i + length (x ∷ xs))
    by_test true n rest = cc
    by_test false n rest = rest n ∙ ap Some (omega arith)

-- where none passes, there is no place
pub none_from : {X : Type 0} (t : X → Bool) (i : ℕ) (xs : List X) → find t xs ≡ None → position_from t i xs ≡ None
none_from t i [] none = refl
none_from t i (x ∷ xs) none = by_test (t x) none (none_from t (i + 1) xs)
  where
    by_test : (b : Bool) → cond b (Some x) (find t xs) ≡ None → (find t xs ≡ None → position_from t (i + 1) xs ≡ None) → cond b (Some i) (position_from t (i + 1) xs) ≡ None
    by_test true n rest = cc
    by_test false n rest = rest n

-- the places, after one element more that was found nowhere
pub place-push : {X : Type 0} (t : X → Bool) (xs : List X) (y : X) → (t y ≡ true → find t xs ≡ None) →
    position_from t 0 (xs ++ y ∷ []) ≡ cond (t y) (Some (length xs)) (position_from t 0 xs)
place-push t xs y new = by_test (t y) refl new
  where
    by_test : (b : Bool) → t y ≡ b → (b ≡ true → find t xs ≡ None) → position_from t 0 (xs ++ y ∷ []) ≡ cond b (Some (length xs)) (position_from t 0 xs)
    by_test true h none = last_from t 0 xs y (none refl) h ∙ ap Some (omega arith)
    by_test false h none = other_from t 0 xs y h
