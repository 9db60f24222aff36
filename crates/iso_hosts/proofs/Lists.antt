-- Lists, and what holds of all their elements.
use Rattle.std.proofs.Common.{◌≡◌, ℕ, zero, suc, refl, subst, List, [], ◌∷◌, ◌++◌, length}
use Rattle.std.specs.Prelude.{Some, slice_get}
use Rattle.std.specs.List.{AllByRecursion}
use Rattle.std.proofs.lemmas.List.Elements.{All-from_recursion, recursion_from_All, All-get_or, All-push}
use Rattle.std.proofs.lemmas.Option.{slice_get_within, get_or_from_slice_get}

-- what holds of all and of one more
pub all-push : {X : Type 0} (P : X → Type 0) (xs : List X) (x : X)
    → AllByRecursion P xs → P x → AllByRecursion P (xs ++ x ∷ [])
all-push P xs x all p =
    recursion_from_All P (xs ++ x ∷ []) (All-push P xs x (All-from_recursion P xs all) p)

-- what holds of all holds of the one at a place
pub all-at : {X : Type 0} (P : X → Type 0) (xs : List X) (k : ℕ) (x : X)
    → AllByRecursion P xs → slice_get xs k ≡ Some x → P x
all-at P xs k x all h =
    subst P (get_or_from_slice_get xs k x x h)
    (All-get_or P xs k x (slice_get_within xs k x h) (All-from_recursion P xs all))

-- the new one stands last
pub get-last : {X : Type 0} (xs : List X) (x : X) → slice_get (xs ++ x ∷ []) (length xs) ≡ Some x
get-last [] x = refl
get-last (y ∷ ys) x = get-last ys x

-- what stands at a place stays there
pub at-more : {X : Type 0} (xs ys : List X) (k : ℕ) (x : X)
    → slice_get xs k ≡ Some x → slice_get (xs ++ ys) k ≡ Some x
at-more [] ys k x h = cc
at-more (y ∷ xs) ys zero x h = h
at-more (y ∷ xs) ys (suc k) x h = at-more xs ys k x h
