-- What is kept under trace numbers in a row.
use Rattle.std.proofs.Common.{◌≡◌, ℕ, zero, suc, Bool, true, false, refl, arith, ap, sym, ◌∙◌, subst, List, [], ◌∷◌, ◌++◌, length, ◌<◌, ◌≤◌, ◌+◌, cond, slice_set}
use Rattle.std.specs.Prelude.{◌==◌, Option, Some, None, sum_by, slice_get, IfSome}
use Rattle.std.specs.List.{AllByRecursion}
use Rattle.std.proofs.lemmas.List.Sums.{sum_by-cons}
use Rattle.std.proofs.lemmas.Option.{same_Some}
use Rattle.std.proofs.lemmas.Bool.{eqb-true, eq-eqb, ne_eqb}
use Rattle.iso_acquirer.specs.declared.slot.Slot.{Slot}
use Rattle.iso_acquirer.specs.declared.slot.Role.TheVariants.{Reversal}
use Rattle.iso_acquirer.specs.declared.slot.Stage.{Stage}
use Rattle.iso_acquirer.specs.Acquirer.{slot_at, slots_at_stage, slot_at_stage}
use Rattle.iso_acquirer.specs.Room.{AreNumbered}

-- below the first number there is nothing
pub below : (slots : List Slot) (n m : ℕ) → AreNumbered n slots → m < n → slot_at slots m ≡ None
below [] n m h less = refl
below (s ∷ ss) n m h less =
    let apart : (s.order.key.stan == m) ≡ false = ne_eqb s.order.key.stan m (λ e. omega (arith, h.0, e)) in
    ap (λ b. cond b (Some s) (slot_at ss m)) apart ∙ below ss (n + 1) m h.1 (omega arith)

-- a trace number is a place
pub placed : (slots : List Slot) (n i m : ℕ) → AreNumbered n slots → m ≡ n + i → slot_at slots m ≡ slice_get slots i
placed [] n i m h is = refl
placed (s ∷ ss) n zero m h is =
    let here : (s.order.key.stan == m) ≡ true = eq-eqb s.order.key.stan m (omega (arith, h.0)) in
    ap (λ b. cond b (Some s) (slot_at ss m)) here
placed (s ∷ ss) n (suc i) m h is =
    let apart : (s.order.key.stan == m) ≡ false = ne_eqb s.order.key.stan m (λ e. omega (arith, h.0, e)) in
    ap (λ b. cond b (Some s) (slot_at ss m)) apart ∙ placed ss (n + 1) i m h.1 (omega arith)

-- above the last number there is nothing
pub above : (slots : List Slot) (n m : ℕ) → AreNumbered n slots → n + length slots ≤ m → slot_at slots m ≡ None
above [] n m h more = refl
above (s ∷ ss) n m h more =
    let apart : (s.order.key.stan == m) ≡ false = ne_eqb s.order.key.stan m (λ e. omega (arith, h.0, e)) in
    ap (λ b. cond b (Some s) (slot_at ss m)) apart ∙ above ss (n + 1) m h.1 (omega arith)

-- a change of what isn't there
pub unchanged : (step : Stage → Stage) (slots : List Slot) (m : ℕ) → slot_at slots m ≡ None → slots_at_stage step m slots ≡ slots
unchanged step [] m h = refl
unchanged step (s ∷ ss) m h = by_test (s.order.key.stan == m) h (unchanged step ss m)
  where
    by_test : (b : Bool) → cond b (Some s) (slot_at ss m) ≡ None → (slot_at ss m ≡ None → slots_at_stage step m ss ≡ ss) → cond b (slot_at_stage step s) s ∷ slots_at_stage step m ss ≡ s ∷ ss
    by_test true e rest = cc
    by_test false e rest = ap (λ xs. s ∷ xs) (rest e)

-- to write at the place of a trace number is to change what is kept there
pub written : (step : Stage → Stage) (slots : List Slot) (n i m : ℕ) (s x : Slot) → AreNumbered n slots → m ≡ n + i → slot_at slots m ≡ Some s → slot_at_stage step s ≡ x →
    slice_set slots i x ≡ slots_at_stage step m slots
written step [] n i m s x h is there new = cc
written step (y ∷ ys) n zero m s x h is there new =
    let here : (y.order.key.stan == m) ≡ true = eq-eqb y.order.key.stan m (omega (arith, h.0)) in
    let same : y ≡ s = same_Some y s (sym (ap (λ b. cond b (Some y) (slot_at ys m)) here) ∙ there) in
    let rest : slots_at_stage step m ys ≡ ys = unchanged step ys m (below ys (n + 1) m h.1 (omega arith)) in
    let first : cond (y.order.key.stan == m) (slot_at_stage step y) y ≡ x = ap (λ b. cond b (slot_at_stage step y) y) here ∙ ap (slot_at_stage step) same ∙ new in
    sym (ap (λ z. z ∷ slots_at_stage step m ys) first ∙ ap (λ zs. x ∷ zs) rest)
written step (y ∷ ys) n (suc i) m s x h is there new =
    let apart : (y.order.key.stan == m) ≡ false = ne_eqb y.order.key.stan m (λ e. omega (arith, h.0, e)) in
    let found : slot_at ys m ≡ Some s = sym (ap (λ b. cond b (Some y) (slot_at ys m)) apart) ∙ there in
    let first : cond (y.order.key.stan == m) (slot_at_stage step y) y ≡ y = ap (λ b. cond b (slot_at_stage step y) y) apart in
    ap (λ zs. y ∷ zs) (written step ys (n + 1) i m s x h.1 (omega arith) found new) ∙ sym (ap (λ z. z ∷ slots_at_stage step m ys) first)

-- one change changes a sum by one element
pub summed : (g : Slot → ℕ) (step : Stage → Stage) (slots : List Slot) (n m : ℕ) (s : Slot) → AreNumbered n slots → slot_at slots m ≡ Some s →
    sum_by g (slots_at_stage step m slots) + g s ≡ sum_by g slots + g (slot_at_stage step s)
summed g step [] n m s h there = cc
summed g step (y ∷ ys) n m s h there = by_test (y.order.key.stan == m) refl there (summed g step ys (n + 1) m s h.1)
  where
    by_test : (b : Bool) → (y.order.key.stan == m) ≡ b → cond b (Some y) (slot_at ys m) ≡ Some s →
        (slot_at ys m ≡ Some s → sum_by g (slots_at_stage step m ys) + g s ≡ sum_by g ys + g (slot_at_stage step s)) →
        sum_by g (cond b (slot_at_stage step y) y ∷ slots_at_stage step m ys) + g s ≡ sum_by g (y ∷ ys) + g (slot_at_stage step s)
    by_test true e found rest =
        let same : y ≡ s = same_Some y s found in
        let at : y.order.key.stan ≡ m = eqb-true y.order.key.stan m e in
        let others : slots_at_stage step m ys ≡ ys = unchanged step ys m (below ys (n + 1) m h.1 (omega (arith, h.0))) in
        rw (others, same) (omega (arith, sum_by-cons g (slot_at_stage step s) ys, sum_by-cons g s ys))
    by_test false e found rest =
        omega (arith, rest found, sum_by-cons g y (slots_at_stage step m ys), sum_by-cons g y ys)

-- changes keep the numbers
pub numbered-changed : (step : Stage → Stage) (m : ℕ) (slots : List Slot) (n : ℕ) → AreNumbered n slots → AreNumbered n (slots_at_stage step m slots)
numbered-changed step m [] n h = tt
numbered-changed step m (s ∷ ss) n h = (by_test (s.order.key.stan == m), numbered-changed step m ss (n + 1) h.1)
  where
    by_test : (b : Bool) → (cond b (slot_at_stage step s) s).order.key.stan ≡ n
    by_test true = h.0
    by_test false = h.0

-- the next number comes last
pub numbered-push : (slots : List Slot) (s : Slot) (n : ℕ) → AreNumbered n slots → s.order.key.stan ≡ n + length slots → AreNumbered n (slots ++ s ∷ [])
numbered-push [] s n h is = (omega (arith, is), tt)
numbered-push (x ∷ xs) s n h is = (h.0, numbered-push xs s (n + 1) h.1 (omega (arith, is)))

pub length-changed : (step : Stage → Stage) (m : ℕ) (slots : List Slot) → length (slots_at_stage step m slots) ≡ length slots
length-changed step m [] = refl
length-changed step m (s ∷ ss) = ap suc (length-changed step m ss)

-- the number of what is found, and its place
pub found : (slots : List Slot) (n m : ℕ) (s : Slot) → AreNumbered n slots → slot_at slots m ≡ Some s → (s.order.key.stan ≡ m) × (n ≤ m) × (m < n + length slots)
found [] n m s h there = cc
found (y ∷ ys) n m s h there = by_test (y.order.key.stan == m) refl there (found ys (n + 1) m s h.1)
  where
    by_test : (b : Bool) → (y.order.key.stan == m) ≡ b → cond b (Some y) (slot_at ys m) ≡ Some s →
        (slot_at ys m ≡ Some s → (s.order.key.stan ≡ m) × (n + 1 ≤ m) × (m < n + 1 + length ys)) → (s.order.key.stan ≡ m) × (n ≤ m) × (m < n + length (y ∷ ys))
    by_test true e here rest =
        let at : y.order.key.stan ≡ m = eqb-true y.order.key.stan m e in
        (ap (λ (z : Slot). z.order.key.stan) (sym (same_Some y s here)) ∙ at, omega (arith, h.0, at), omega (arith, h.0, at))
    by_test false e here rest = let r = rest here in (r.0, omega (arith, r.1), omega (arith, r.2))

-- what is found stands under its own number
pub found_own : (slots : List Slot) (m : ℕ) → AreNumbered 1 slots → (r : Option Slot) → r ≡ slot_at slots m → IfSome r (λ s. slot_at slots s.order.key.stan ≡ Some s)
found_own slots m h None is = tt
found_own slots m h (Some s) is = ap (slot_at slots) (found slots 1 m s h (sym is)).0 ∙ sym is

-- a reversal doesn't change
pub reversal-stays : (step : Stage → Stage) (slots : List Slot) (n m k : ℕ) (s : Slot) → AreNumbered n slots → slot_at slots m ≡ Some s → s.role ≡ Reversal k → slots_at_stage step m slots ≡ slots
reversal-stays step [] n m k s h there is = cc
reversal-stays step (y ∷ ys) n m k s h there is = by_test (y.order.key.stan == m) refl there (λ later. reversal-stays step ys (n + 1) m k s h.1 later is)
  where
    plain : (x : Slot) → x.role ≡ Reversal k → slot_at_stage step x ≡ x
    plain x r = rw r refl

    by_test : (b : Bool) → (y.order.key.stan == m) ≡ b → cond b (Some y) (slot_at ys m) ≡ Some s → (slot_at ys m ≡ Some s → slots_at_stage step m ys ≡ ys) →
        cond b (slot_at_stage step y) y ∷ slots_at_stage step m ys ≡ y ∷ ys
    by_test true e here rest =
        let at : y.order.key.stan ≡ m = eqb-true y.order.key.stan m e in
        let role : y.role ≡ Reversal k = ap (λ (x : Slot). x.role) (same_Some y s here) ∙ is in
        ap (λ x. x ∷ slots_at_stage step m ys) (plain y role) ∙ ap (λ xs. y ∷ xs) (unchanged step ys m (below ys (n + 1) m h.1 (omega (arith, h.0, at))))
    by_test false e here rest = ap (λ xs. y ∷ xs) (rest here)

-- ---- what holds of all

pub all-found : (P : Slot → Type 0) (slots : List Slot) (m : ℕ) (s : Slot) → AllByRecursion P slots → slot_at slots m ≡ Some s → P s
all-found P [] m s all there = cc
all-found P (y ∷ ys) m s all there = by_test (y.order.key.stan == m) there (all-found P ys m s all.1)
  where
    by_test : (b : Bool) → cond b (Some y) (slot_at ys m) ≡ Some s → (slot_at ys m ≡ Some s → P s) → P s
    by_test true here rest = subst P (same_Some y s here) all.0
    by_test false here rest = rest here

pub all-changed : (P : Slot → Type 0) (step : Stage → Stage) (m : ℕ) (slots : List Slot) → ((s : Slot) → P s → P (slot_at_stage step s)) → AllByRecursion P slots → AllByRecursion P (slots_at_stage step m slots)
all-changed P step m [] each all = tt
all-changed P step m (s ∷ ss) each all = (by_test (s.order.key.stan == m), all-changed P step m ss each all.1)
  where
    by_test : (b : Bool) → P (cond b (slot_at_stage step s) s)
    by_test true = each s all.0
    by_test false = all.0
