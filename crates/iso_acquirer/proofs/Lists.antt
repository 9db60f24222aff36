-- Lists that grow at their end, and what holds of all elements.
use Rattle.std.proofs.Common.{◌≡◌, ℕ, zero, suc, Bool, ap, ◌∙◌, subst, List, [], ◌∷◌, ◌++◌}
use Rattle.std.specs.Prelude.{find, Some, slice_get}
use Rattle.std.specs.List.{AllByRecursion}
use Rattle.std.specs.Option.{option_or}
use Rattle.std.proofs.lemmas.Option.{same_Some}
use Rattle.std.proofs.lemmas.List.Elements.{All-push, All-weaker, All-from_recursion, recursion_from_All}
use Rattle.std.proofs.lemmas.List.Folds.{find-append}

pub all-push : {X : Type 0} (P : X → Type 0) (xs : List X) (x : X) → AllByRecursion P xs → P x → AllByRecursion P (xs ++ x ∷ [])
all-push P xs x all p = recursion_from_All P (xs ++ x ∷ []) (All-push P xs x (All-from_recursion P xs all) p)

pub all-weaker : {X : Type 0} (P Q : X → Type 0) (xs : List X) → ((x : X) → P x → Q x) → AllByRecursion P xs → AllByRecursion Q xs
all-weaker P Q xs f all = recursion_from_All Q xs (All-weaker P Q f xs (All-from_recursion P xs all))

-- what holds of each element holds of the one at a place
pub all-at : {X : Type 0} (P : X → Type 0) (xs : List X) (k : ℕ) (x : X) → AllByRecursion P xs → slice_get xs k ≡ Some x → P x
all-at P [] k x all h = cc
all-at P (y ∷ ys) zero x all h = subst P (same_Some y x h) all.0
all-at P (y ∷ ys) (suc k) x all h = all-at P ys k x all.1 h

-- what is found stays found
pub find-more : {X : Type 0} (t : X → Bool) (xs ys : List X) (x : X) → find t xs ≡ Some x → find t (xs ++ ys) ≡ Some x
find-more t xs ys x h = find-append t xs ys ∙ ap (λ f. option_or f (find t ys)) h
