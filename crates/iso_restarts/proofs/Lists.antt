-- Lists, and what holds of all their elements.
use Rattle.std.proofs.Common.{◌≡◌, ℕ, zero, suc, refl, subst, List, [], ◌∷◌, ◌++◌}
use Rattle.std.specs.Prelude.{Some, slice_get}
use Rattle.std.specs.List.{AllByRecursion}
use Rattle.std.proofs.lemmas.List.Elements.{All-from_recursion, recursion_from_All, All-weaker, All-append, All-get_or}
use Rattle.std.proofs.lemmas.Option.{slice_get_within, get_or_from_slice_get}

-- ---- what holds of all

-- what follows from it holds of all too
pub all-weaker : {X : Type 0} (P Q : X → Type 0) (xs : List X) → ((x : X) → P x → Q x) → AllByRecursion P xs → AllByRecursion Q xs
all-weaker P Q xs f all = recursion_from_All Q xs (All-weaker P Q f xs (All-from_recursion P xs all))

-- it holds of two lists, one behind the other
pub all-join : {X : Type 0} (P : X → Type 0) (xs ys : List X) → AllByRecursion P xs → AllByRecursion P ys → AllByRecursion P (xs ++ ys)
all-join P xs ys h k = recursion_from_All P (xs ++ ys) (All-append P xs ys (All-from_recursion P xs h) (All-from_recursion P ys k))

-- it holds of the one at a place
pub all-at : {X : Type 0} (P : X → Type 0) (xs : List X) (k : ℕ) (x : X) → AllByRecursion P xs → slice_get xs k ≡ Some x → P x
all-at P xs k x all h = subst P (get_or_from_slice_get xs k x x h) (All-get_or P xs k x (slice_get_within xs k x h) (All-from_recursion P xs all))

-- ---- what is at a place

-- what stands there stays there
pub at-more : {X : Type 0} (xs ys : List X) (k : ℕ) (x : X) → slice_get xs k ≡ Some x → slice_get (xs ++ ys) k ≡ Some x
at-more [] ys k x h = cc
at-more (y ∷ xs) ys zero x h = h
at-more (y ∷ xs) ys (suc k) x h = at-more xs ys k x h

-- what stands in a list behind another stands in both
pub at-behind : {X : Type 0} (xs ys : List X) (k : ℕ) (x : X) → slice_get ys k ≡ Some x → (n : ℕ) × (slice_get (xs ++ ys) n ≡ Some x)
at-behind [] ys k x h = (k, h)
at-behind (y ∷ xs) ys k x h = let rest = at-behind xs ys k x h in (suc rest.0, rest.1)

-- each element of a list stands in it, behind any other
pub all-in : {X : Type 0} (xs ys : List X) → AllByRecursion (λ x. (n : ℕ) × (slice_get (xs ++ ys) n ≡ Some x)) ys
all-in xs [] = tt
all-in xs (y ∷ ys) = (
  at-behind xs (y ∷ ys) 0 y refl,
  all-weaker (λ x. (n : ℕ) × (slice_get ys n ≡ Some x)) (λ x. (n : ℕ) × (slice_get (xs ++ y ∷ ys) n ≡ Some x)) ys
      (λ x at. at-behind xs (y ∷ ys) (suc at.0) x at.1) (all-in [] ys),
)
