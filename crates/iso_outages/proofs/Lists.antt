-- Lists, what holds of all their elements, and keys that are distinct.
use Rattle.std.proofs.Common.{◌≡◌, ℕ, zero, suc, refl, ap, sym, ◌∙◌, subst, List, [], ◌∷◌, ◌++◌, take, drop, append_assoc, take-append-drop}
use Rattle.std.specs.Prelude.{Some, slice_get}
use Rattle.std.specs.List.{AllByRecursion}
use Rattle.std.proofs.lemmas.List.Elements.{All-from_recursion, recursion_from_All, All-weaker, All-append, All-get_or}
use Rattle.std.proofs.lemmas.Option.{slice_get_within, get_or_from_slice_get}
use Rattle.iso_order.specs.Order.{Instruction}
use Rattle.iso_durable.specs.StartLaws.{StartLaws}
use Rattle.iso_durable.specs.World.{IsStart}

-- ---- what holds of all

-- what follows from it holds of all too
pub all-weaker : {X : Type 0} (P Q : X → Type 0) (xs : List X) → ((x : X) → P x → Q x) → AllByRecursion P xs → AllByRecursion Q xs
all-weaker P Q xs f all = recursion_from_All Q xs (All-weaker P Q f xs (All-from_recursion P xs all))

-- it holds of two lists, one behind the other
pub all-join : {X : Type 0} (P : X → Type 0) (xs ys : List X) → AllByRecursion P xs → AllByRecursion P ys → AllByRecursion P (xs ++ ys)
all-join P xs ys h k = recursion_from_All P (xs ++ ys) (All-append P xs ys (All-from_recursion P xs h) (All-from_recursion P ys k))

-- it holds of the one at a place
pub all-at : {X : Type 0} (P : X → Type 0) (xs : List X) (k : ℕ) (x : X) → AllByRecursion P xs → slice_get xs k ≡ Some x → P x
all-at P xs k x all h = subst P (get_or_from_slice_get xs k x x h) (All-get_or P xs k x (slice_get_within xs k x h) (All-from_recursion P xs all))

-- it holds of the first ones
pub all-take : {X : Type 0} (P : X → Type 0) (n : ℕ) (xs : List X) → AllByRecursion P xs → AllByRecursion P (take n xs)
all-take P zero xs all = tt
all-take P (suc n) [] all = tt
all-take P (suc n) (x ∷ xs) all = (all.0, all-take P n xs all.1)

-- ---- what is at a place

-- what stands there stays there
pub at-more : {X : Type 0} (xs ys : List X) (k : ℕ) (x : X) → slice_get xs k ≡ Some x → slice_get (xs ++ ys) k ≡ Some x
at-more [] ys k x h = cc
at-more (y ∷ xs) ys zero x h = h
at-more (y ∷ xs) ys (suc k) x h = at-more xs ys k x h

-- the new one stands last
pub at-last : {X : Type 0} (xs : List X) (x : X) → (k : ℕ) × (slice_get (xs ++ x ∷ []) k ≡ Some x)
at-last [] x = (0, refl)
at-last (y ∷ xs) x = let rest = at-last xs x in (suc rest.0, rest.1)

-- ---- keys

-- a host can start on what a crash keeps
pub start-kept : (starts : StartLaws) (limit n : ℕ) (xs ys : List Instruction) → IsStart limit (xs ++ ys) → IsStart limit (xs ++ take n ys)
start-kept starts limit n xs ys h =
    let split : xs ++ ys ≡ (xs ++ take n ys) ++ drop n ys =
    ap (λ (l : List Instruction). xs ++ l) (sym (take-append-drop n ys)) ∙ sym (append_assoc xs (take n ys) (drop n ys)) in
    starts.front limit (xs ++ take n ys) (drop n ys) (subst (IsStart limit) split h)
