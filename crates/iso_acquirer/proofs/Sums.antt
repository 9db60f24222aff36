-- Sums over entries, and over what is kept under their trace numbers.
use Rattle.std.proofs.Common.{◌≡◌, ◌≢◌, ℕ, Bool, true, false, refl, arith, ap, sym, ◌∙◌, List, [], ◌∷◌, ◌+◌, cond}
use Rattle.std.specs.Prelude.{◌||◌, ◌==◌, Option, Some, None, map, is_some, sum_by}
use Rattle.std.specs.List.{AllByRecursion}
use Rattle.std.proofs.lemmas.List.Sums.{sum_by-cons}
use Rattle.std.proofs.lemmas.Option.{same_Some}
use Rattle.std.proofs.lemmas.Bool.{eqb-true, eq-eqb, ne_eqb, both_ways, eqb-false}
use Rattle.iso_order.specs.declared.key.TxKey.{TxKey}
use Rattle.iso_order.specs.Key.{same_key}
use Rattle.iso_order.specs.Order.{Instruction}
use Rattle.iso_issuer.specs.declared.journal.Entry.{Entry}
use Rattle.iso_issuer.specs.Journal.{entry_at, is_entered, HasDistinctKeys}
use Rattle.iso_acquirer.specs.declared.slot.Slot.{Slot}
use Rattle.iso_acquirer.specs.Acquirer.{slot_at, order_at}
use Rattle.iso_acquirer.specs.Room.{AreNumbered}
use Rattle.iso_acquirer.proofs.Keys.{same_key_is, same_key_self}
use Rattle.iso_acquirer.proofs.Numbered.{found}
use Rattle.iso_acquirer.proofs.Clauses.{slot_of_order}

pub sum-all : {X : Type 0} (f g : X → ℕ) (xs : List X) → AllByRecursion (λ x. f x ≡ g x) xs → sum_by f xs ≡ sum_by g xs
sum-all f g [] all = refl
sum-all f g (x ∷ xs) all = omega (arith, all.0, sum-all f g xs all.1, sum_by-cons f x xs, sum_by-cons g x xs)

pub sum-none : {X : Type 0} (f : X → ℕ) (xs : List X) → AllByRecursion (λ x. f x ≡ 0) xs → sum_by f xs ≡ 0
sum-none f [] all = refl
sum-none f (x ∷ xs) all = omega (arith, all.0, sum-none f xs all.1, sum_by-cons f x xs)

sum-split : {X : Type 0} (f g h : X → ℕ) (xs : List X) → ((x : X) → f x ≡ g x + h x) → sum_by f xs ≡ sum_by g xs + sum_by h xs
sum-split f g h [] each = refl
sum-split f g h (x ∷ xs) each = omega (arith, each x, sum-split f g h xs each, sum_by-cons f x xs, sum_by-cons g x xs, sum_by-cons h x xs)

pub all-map : {X Y : Type 0} (P : Y → Type 0) (f : X → Y) (xs : List X) → AllByRecursion P (map f xs) → AllByRecursion (λ x. P (f x)) xs
all-map P f [] all = tt
all-map P f (x ∷ xs) all = (all.0, all-map P f xs all.1)

-- what holds of each slot that is found holds of all
pub all-slots : (P : Slot → Type 0) (slots : List Slot) (n : ℕ) → AreNumbered n slots → ((m : ℕ) (s : Slot) → slot_at slots m ≡ Some s → P s) → AllByRecursion P slots
all-slots P [] n h each = tt
all-slots P (s ∷ ss) n h each = (
  each n s (ap (λ b. cond b (Some s) (slot_at ss n)) (eq-eqb s.order.key.stan n h.0)),
  all-slots P ss (n + 1) h.1 (λ m t there. each m t (later m t there)),
)
  where
    later : (m : ℕ) (t : Slot) → slot_at ss m ≡ Some t → slot_at (s ∷ ss) m ≡ Some t
    later m t there =
        let place = found ss (n + 1) m t h.1 there in
        ap (λ b. cond b (Some s) (slot_at ss m)) (ne_eqb s.order.key.stan m (λ e. omega (arith, h.0, place.1, e))) ∙ there

-- a key is entered where it has an entry
entered-found : (es : List Entry) (k : TxKey) → is_entered (map (λ e. e.order) es) k ≡ is_some (entry_at es k)
entered-found [] k = refl
entered-found (e ∷ es) k = by_test (same_key e.order.key k) (entered-found es k)
  where
    by_test : (b : Bool) → is_entered (map (λ e. e.order) es) k ≡ is_some (entry_at es k) → (b || is_entered (map (λ e. e.order) es) k) ≡ is_some (cond b (Some e) (entry_at es k))
    by_test true known = refl
    by_test false known = known

-- what holds of each entry that is found holds of all, where keys are distinct
pub all-entries : (P : Entry → Type 0) (es : List Entry) → HasDistinctKeys (map (λ e. e.order) es) → ((e : Entry) → entry_at es e.order.key ≡ Some e → P e) → AllByRecursion P es
all-entries P [] distinct each = tt
all-entries P (e ∷ es) distinct each = (
  each e (ap (λ b. cond b (Some e) (entry_at es e.order.key)) (same_key_self e.order.key)),
  all-entries P es distinct.1 (λ x there. each x (later x there (same_key e.order.key x.order.key) refl)),
)
  where
    later : (x : Entry) → entry_at es x.order.key ≡ Some x → (b : Bool) → same_key e.order.key x.order.key ≡ b → entry_at (e ∷ es) x.order.key ≡ Some x
    later x there true t =
        let same : e.order.key ≡ x.order.key = same_key_is e.order.key x.order.key t in
        let entered_too : is_entered (map (λ e. e.order) es) e.order.key ≡ true = ap (is_entered (map (λ e. e.order) es)) same ∙ entered-found es x.order.key ∙ ap is_some there in
        absurd (both_ways (is_entered (map (λ e. e.order) es) e.order.key) distinct.0 entered_too)
    later x there false t = ap (λ b. cond b (Some e) (entry_at es x.order.key)) t ∙ there

-- ---- from entries to slots

-- what is kept under an entry's trace number counts, by its order
abbrev pub slot_sum : (Slot → ℕ) → Option Slot → ℕ
slot_sum g None = 0
slot_sum g (Some s) = g s

abbrev pub at_slot : List Slot → (Slot → ℕ) → ℕ → ℕ
at_slot slots g stan = slot_sum g (slot_at slots stan)

other_key : (a b : TxKey) → b.stan ≢ a.stan → same_key a b ≡ false
other_key a b h = go (same_key a b) refl
  where
    go : (t : Bool) → same_key a b ≡ t → t ≡ false
    go false e = refl
    go true e = absurd (h (ap (λ (k : TxKey). k.stan) (sym (same_key_is a b e))))

-- one slot of a sum
picked : (g : Slot → ℕ) (slots : List Slot) (n : ℕ) (k : TxKey) (s : Slot) → AreNumbered n slots → slot_at slots k.stan ≡ Some s → s.order.key ≡ k →
    sum_by (λ x. cond (same_key k x.order.key) (g x) 0) slots ≡ g s
picked g [] n k s h there is = cc
picked g (y ∷ ys) n k s h there is = by_test (y.order.key.stan == k.stan) refl there (λ here. picked g ys (n + 1) k s h.1 here is)
  where
    by_test : (b : Bool) → (y.order.key.stan == k.stan) ≡ b → cond b (Some y) (slot_at ys k.stan) ≡ Some s → (slot_at ys k.stan ≡ Some s → sum_by (λ x. cond (same_key k x.order.key) (g x) 0) ys ≡ g s) →
        sum_by (λ x. cond (same_key k x.order.key) (g x) 0) (y ∷ ys) ≡ g s
    by_test true e here later =
        let same : y ≡ s = same_Some y s here in
        let key : y.order.key ≡ k = ap (λ (z : Slot). z.order.key) same ∙ is in
        let at : y.order.key.stan ≡ k.stan = eqb-true y.order.key.stan k.stan e in
        let rest : sum_by (λ x. cond (same_key k x.order.key) (g x) 0) ys ≡ 0 =
        sum-none (λ x. cond (same_key k x.order.key) (g x) 0) ys
        (all-slots (λ x. cond (same_key k x.order.key) (g x) 0 ≡ 0) ys (n + 1) h.1
        (λ m x at_m. let place = found ys (n + 1) m x h.1 at_m in
        ap (λ b. cond b (g x) 0) (other_key k x.order.key (λ e. omega (arith, h.0, at, place.0, place.1, e))))) in
        let first : cond (same_key k y.order.key) (g y) 0 ≡ g s = ap (λ b. cond b (g y) 0) (ap (same_key k) key ∙ same_key_self k) ∙ ap g same in
        omega (arith, sum_by-cons (λ x. cond (same_key k x.order.key) (g x) 0) y ys, rest, first)
    by_test false e here later =
        let first : cond (same_key k y.order.key) (g y) 0 ≡ 0 = ap (λ b. cond b (g y) 0) (other_key k y.order.key (eqb-false y.order.key.stan k.stan e)) in
        omega (arith, sum_by-cons (λ x. cond (same_key k x.order.key) (g x) 0) y ys, first, later here)

-- an entry's order is what is kept under its trace number
abbrev pub IsOwnIn : List Slot → Entry → Type 0
IsOwnIn slots e = order_at slots e.order.key.stan ≡ Some e.order

split_or : (a b : Bool) (n : ℕ) → (a ≡ true → b ≡ false) → cond (a || b) n 0 ≡ cond a n 0 + cond b n 0
split_or true true n h = let off : true ≡ false = h refl in cc
split_or true false n h = omega arith
split_or false b n h = omega arith

-- a sum over entries is one over the slots whose orders are entered
pub to-slots : (slots : List Slot) (g : Slot → ℕ) → AreNumbered 1 slots → (es : List Entry) → HasDistinctKeys (map (λ e. e.order) es) → AllByRecursion (IsOwnIn slots) es →
    sum_by (λ e. at_slot slots g e.order.key.stan) es ≡ sum_by (λ s. cond (is_entered (map (λ e. e.order) es) s.order.key) (g s) 0) slots
to-slots slots g numbered [] distinct own = sym (sum-none (λ s. cond (is_entered [] s.order.key) (g s) 0) slots (all-slots (λ s. ◌≡◌ {A = ℕ} 0 0) slots 1 numbered (λ m s there. refl)))
to-slots slots g numbered (e ∷ es) distinct own =
    let slot = slot_of_order slots e.order.key.stan e.order own.0 in
    let first : at_slot slots g e.order.key.stan ≡ sum_by (λ x. cond (same_key e.order.key x.order.key) (g x) 0) slots =
    ap (slot_sum g) slot.1 ∙ sym (picked g slots 1 e.order.key slot.0 numbered slot.1 (ap (λ (o : Instruction). o.key) slot.2)) in
    let rest = to-slots slots g numbered es distinct.1 own.1 in
    let both : sum_by (λ s. cond (same_key e.order.key s.order.key || is_entered (map (λ e. e.order) es) s.order.key) (g s) 0) slots
    ≡ sum_by (λ x. cond (same_key e.order.key x.order.key) (g x) 0) slots + sum_by (λ s. cond (is_entered (map (λ e. e.order) es) s.order.key) (g s) 0) slots
    = sum-split (λ s. cond (same_key e.order.key s.order.key || is_entered (map (λ e. e.order) es) s.order.key) (g s) 0)
    (λ x. cond (same_key e.order.key x.order.key) (g x) 0) (λ s. cond (is_entered (map (λ e. e.order) es) s.order.key) (g s) 0) slots
    (λ s. split_or (same_key e.order.key s.order.key) (is_entered (map (λ e. e.order) es) s.order.key) (g s)
    (λ t. ap (is_entered (map (λ e. e.order) es)) (sym (same_key_is e.order.key s.order.key t)) ∙ distinct.0)) in
    omega (arith, sum_by-cons (λ e. at_slot slots g e.order.key.stan) e es, first, rest, both)
