-- What holds of all elements of a list.
use Rattle.std.proofs.Common.{◌≡◌, ℕ, zero, suc, subst, List, [], ◌∷◌, ◌++◌}
use Rattle.std.specs.Prelude.{Some, slice_get}
use Rattle.std.specs.List.{AllByRecursion}
use Rattle.std.proofs.lemmas.Option.{same_Some}
use Rattle.std.proofs.lemmas.List.Elements.{All-append, All-weaker, All-from_recursion, recursion_from_All}

pub every : {X : Type 0} (P : X → Type 0) (xs : List X) → ((x : X) → P x) → AllByRecursion P xs
every P xs each = recursion_from_All P xs (λ k d less. each _)

pub all-weaker : {X : Type 0} (P Q : X → Type 0) (xs : List X) → ((x : X) → P x → Q x)
    → AllByRecursion P xs → AllByRecursion Q xs
all-weaker P Q xs f all = recursion_from_All Q xs (All-weaker P Q f xs (All-from_recursion P xs all))

pub all-join : {X : Type 0} (P : X → Type 0) (xs ys : List X) → AllByRecursion P xs
    → AllByRecursion P ys → AllByRecursion P (xs ++ ys)
all-join P xs ys h k =
    recursion_from_All P (xs ++ ys)
    (All-append P xs ys (All-from_recursion P xs h) (All-from_recursion P ys k))

-- what holds of each element holds of the one at a place
pub all-at : {X : Type 0} (P : X → Type 0) (xs : List X) (k : ℕ) (x : X) → AllByRecursion P xs
    → slice_get xs k ≡ Some x → P x
all-at P [] k x all h = cc
all-at P (y ∷ ys) zero x all h = subst P (same_Some y x h) all.0
all-at P (y ∷ ys) (suc k) x all h = all-at P ys k x all.1 h
