-- Fronts of a list, and orders whose keys are distinct.
use Rattle.std.proofs.Common.{◌≡◌, ℕ, Bool, false, refl, arith, sym, ◌∙◌, List, [], ◌∷◌, ◌++◌, length-append}
use Rattle.std.specs.List.{list_any}
use Rattle.std.proofs.lemmas.Bool.{or_parts}
use Rattle.std.proofs.lemmas.List.Folds.{list_any-append}
use Rattle.std.proofs.lemmas.Grind.{common_steps}
use Rattle.iso_order.specs.declared.key.TxKey.{TxKey}
use Rattle.iso_order.specs.Key.{same_key}
use Rattle.iso_order.specs.Order.{Instruction}
use Rattle.iso_issuer.specs.Journal.{is_entered, HasDistinctKeys}
use Rattle.iso_durable.specs.World.{IsStart}

-- what nothing in a list is, nothing in its front is, and nothing behind it
any_parts : {X : Type 0} (f : X → Bool) (xs ys : List X) → list_any f (xs ++ ys) ≡ false → (list_any f xs ≡ false) × (list_any f ys ≡ false)
any_parts f xs ys h = or_parts (list_any f xs) (list_any f ys) (sym (list_any-append f xs ys) ∙ h)

-- ---- keys

same_key_sym : (a b : TxKey) → same_key a b ≡ same_key b a
same_key_sym a b = grind (arith, common_steps)

distinct_front : (xs ys : List Instruction) → HasDistinctKeys (xs ++ ys) → HasDistinctKeys xs
distinct_front [] ys h = tt
distinct_front (x ∷ xs) ys h = ((any_parts (λ (p : Instruction). same_key p.key x.key) xs ys h.0).0, distinct_front xs ys h.1)

-- an order of distinct ones is new behind those before it
pub distinct_at : (xs ys : List Instruction) (o : Instruction) → HasDistinctKeys (xs ++ o ∷ ys) → is_entered xs o.key ≡ false
distinct_at [] ys o h = refl
distinct_at (x ∷ xs) ys o h =
    let behind = any_parts (λ (p : Instruction). same_key p.key x.key) xs (o ∷ ys) h.0 in
    let other : same_key x.key o.key ≡ false = same_key_sym x.key o.key ∙ (or_parts (same_key o.key x.key) (is_entered ys x.key) behind.1).0 in
    rw other (distinct_at xs ys o h.1)

-- a front of what a host can start on
pub start_front : (limit : ℕ) (xs ys : List Instruction) → IsStart limit (xs ++ ys) → IsStart limit xs
start_front limit xs ys h = record { once = distinct_front xs ys h.once; few = omega (arith, length-append xs ys, h.few) }
