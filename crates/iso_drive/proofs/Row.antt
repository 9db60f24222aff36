-- What is kept under trace numbers in a row.
use Rattle.std.proofs.Common.{◌≡◌, ◌≢◌, ℕ, zero, suc, Bool, true, false, refl, arith, ap, sym, ◌∙◌, List, [], ◌∷◌, ◌++◌, length, ◌<◌, ◌≤◌, ◌+◌, cond, slice_set}
use Rattle.std.specs.Prelude.{◌==◌, Some, None, slice_get}
use Rattle.std.specs.Option.{option_or}
use Rattle.std.proofs.lemmas.Bool.{eqb-true, eq-eqb, ne_eqb}
use Rattle.std.proofs.lemmas.List.Folds.{find-append}
use Rattle.std.proofs.lemmas.Option.{same_Some}
use Rattle.iso_acquirer.specs.declared.slot.Slot.{Slot}
use Rattle.iso_acquirer.specs.declared.slot.Stage.{Stage}
use Rattle.iso_acquirer.specs.Acquirer.{slot_at, slots_at_stage, slot_at_stage}
use Rattle.iso_drive.specs.Made.{AreInRow}

-- below the first number there is nothing
pub below : (slots : List Slot) (n m : ℕ) → AreInRow n slots → m < n → slot_at slots m ≡ None
below [] n m h less = refl
below (s ∷ ss) n m h less =
    let apart : (s.order.key.stan == m) ≡ false = ne_eqb s.order.key.stan m (λ e. omega (arith, h.0, e)) in
    ap (λ b. cond b (Some s) (slot_at ss m)) apart ∙ below ss (n + 1) m h.1 (omega arith)

-- a trace number is a place
pub placed : (slots : List Slot) (n i m : ℕ) → AreInRow n slots → m ≡ n + i → slot_at slots m ≡ slice_get slots i
placed [] n i m h is = refl
placed (s ∷ ss) n zero m h is =
    let here : (s.order.key.stan == m) ≡ true = eq-eqb s.order.key.stan m (omega (arith, h.0)) in
    ap (λ b. cond b (Some s) (slot_at ss m)) here
placed (s ∷ ss) n (suc i) m h is =
    let apart : (s.order.key.stan == m) ≡ false = ne_eqb s.order.key.stan m (λ e. omega (arith, h.0, e)) in
    ap (λ b. cond b (Some s) (slot_at ss m)) apart ∙ placed ss (n + 1) i m h.1 (omega arith)

-- above the last number there is nothing
pub above : (slots : List Slot) (n m : ℕ) → AreInRow n slots → n + length slots ≤ m → slot_at slots m ≡ None
above [] n m h more = refl
above (s ∷ ss) n m h more =
    let apart : (s.order.key.stan == m) ≡ false = ne_eqb s.order.key.stan m (λ e. omega (arith, h.0, e)) in
    ap (λ b. cond b (Some s) (slot_at ss m)) apart ∙ above ss (n + 1) m h.1 (omega arith)

-- a change of what isn't there
pub unchanged : (step : Stage → Stage) (slots : List Slot) (m : ℕ) → slot_at slots m ≡ None → slots_at_stage step m slots ≡ slots
unchanged step [] m h = refl
unchanged step (s ∷ ss) m h = by_test (s.order.key.stan == m) h (unchanged step ss m)
  where
    by_test : (b : Bool) → cond b (Some s) (slot_at ss m) ≡ None → (slot_at ss m ≡ None → slots_at_stage step m ss ≡ ss) → cond b (slot_at_stage step s) s ∷ slots_at_stage step m ss ≡ s ∷ ss
    by_test true e rest = cc
    by_test false e rest = ap (λ xs. s ∷ xs) (rest e)

-- to write at the place of a trace number is to change what is kept there
pub written : (step : Stage → Stage) (slots : List Slot) (n i m : ℕ) (s x : Slot) → AreInRow n slots → m ≡ n + i → slot_at slots m ≡ Some s → slot_at_stage step s ≡ x →
    slice_set slots i x ≡ slots_at_stage step m slots
written step [] n i m s x h is there new = cc
written step (y ∷ ys) n zero m s x h is there new =
    let here : (y.order.key.stan == m) ≡ true = eq-eqb y.order.key.stan m (omega (arith, h.0)) in
    let same : y ≡ s = same_Some y s (sym (ap (λ b. cond b (Some y) (slot_at ys m)) here) ∙ there) in
    let rest : slots_at_stage step m ys ≡ ys = unchanged step ys m (below ys (n + 1) m h.1 (omega arith)) in
    let first : cond (y.order.key.stan == m) (slot_at_stage step y) y ≡ x = ap (λ b. cond b (slot_at_stage step y) y) here ∙ ap (slot_at_stage step) same ∙ new in
    sym (ap (λ z. z ∷ slots_at_stage step m ys) first ∙ ap (λ zs. x ∷ zs) rest)
written step (y ∷ ys) n (suc i) m s x h is there new =
    let apart : (y.order.key.stan == m) ≡ false = ne_eqb y.order.key.stan m (λ e. omega (arith, h.0, e)) in
    let found : slot_at ys m ≡ Some s = sym (ap (λ b. cond b (Some y) (slot_at ys m)) apart) ∙ there in
    let first : cond (y.order.key.stan == m) (slot_at_stage step y) y ≡ y = ap (λ b. cond b (slot_at_stage step y) y) apart in
    ap (λ zs. y ∷ zs) (written step ys (n + 1) i m s x h.1 (omega arith) found new) ∙ sym (ap (λ z. z ∷ slots_at_stage step m ys) first)

-- changes keep the numbers
pub row-changed : (step : Stage → Stage) (m : ℕ) (slots : List Slot) (n : ℕ) → AreInRow n slots → AreInRow n (slots_at_stage step m slots)
row-changed step m [] n h = tt
row-changed step m (s ∷ ss) n h = (by_test (s.order.key.stan == m), row-changed step m ss (n + 1) h.1)
  where
    by_test : (b : Bool) → (cond b (slot_at_stage step s) s).order.key.stan ≡ n
    by_test true = h.0
    by_test false = h.0

-- the next number comes last
pub row-push : (slots : List Slot) (s : Slot) (n : ℕ) → AreInRow n slots → s.order.key.stan ≡ n + length slots → AreInRow n (slots ++ s ∷ [])
row-push [] s n h is = (omega (arith, is), tt)
row-push (x ∷ xs) s n h is = (h.0, row-push xs s (n + 1) h.1 (omega (arith, is)))

-- the number of what is found, and its place
pub found : (slots : List Slot) (n m : ℕ) (s : Slot) → AreInRow n slots → slot_at slots m ≡ Some s → (s.order.key.stan ≡ m) × (n ≤ m) × (m < n + length slots)
found [] n m s h there = cc
found (y ∷ ys) n m s h there = by_test (y.order.key.stan == m) refl there (found ys (n + 1) m s h.1)
  where
    by_test : (b : Bool) → (y.order.key.stan == m) ≡ b → cond b (Some y) (slot_at ys m) ≡ Some s →
        (slot_at ys m ≡ Some s → (s.order.key.stan ≡ m) × (n + 1 ≤ m) × (m < n + 1 + length ys)) → (s.order.key.stan ≡ m) × (n ≤ m) × (m < n + length (y ∷ ys))
    by_test true e here rest =
        let at : y.order.key.stan ≡ m = eqb-true y.order.key.stan m e in
        (ap (λ (z : Slot). z.order.key.stan) (sym (same_Some y s here)) ∙ at, omega (arith, h.0, at), omega (arith, h.0, at))
    by_test false e here rest = let r = rest here in (r.0, omega (arith, r.1), omega (arith, r.2))

-- ---- what is found after a change

-- a change of another
pub slot-other : (step : Stage → Stage) (m : ℕ) (slots : List Slot) (n : ℕ) → m ≢ n → slot_at (slots_at_stage step m slots) n ≡ slot_at slots n
slot-other step m [] n apart = refl
slot-other step m (s ∷ ss) n apart = by_tests (s.order.key.stan == m) (s.order.key.stan == n) refl refl (slot-other step m ss n apart)
  where
    by_tests : (b c : Bool) → (s.order.key.stan == m) ≡ b → (s.order.key.stan == n) ≡ c → slot_at (slots_at_stage step m ss) n ≡ slot_at ss n →
        cond ((cond b (slot_at_stage step s) s).order.key.stan == n) (Some (cond b (slot_at_stage step s) s)) (slot_at (slots_at_stage step m ss) n) ≡ cond c (Some s) (slot_at ss n)
    by_tests true true e f rest = absurd (apart (sym (eqb-true s.order.key.stan m e) ∙ eqb-true s.order.key.stan n f))
    by_tests true false e f rest = rw f rest
    by_tests false true e f rest = rw f refl
    by_tests false false e f rest = rw f rest

-- the change itself
pub slot-same : (step : Stage → Stage) (m : ℕ) (slots : List Slot) (s : Slot) → slot_at slots m ≡ Some s → slot_at (slots_at_stage step m slots) m ≡ Some (slot_at_stage step s)
slot-same step m [] s there = cc
slot-same step m (y ∷ ys) s there = by_test (y.order.key.stan == m) refl there (slot-same step m ys s)
  where
    by_test : (b : Bool) → (y.order.key.stan == m) ≡ b → cond b (Some y) (slot_at ys m) ≡ Some s → (slot_at ys m ≡ Some s → slot_at (slots_at_stage step m ys) m ≡ Some (slot_at_stage step s)) →
        cond ((cond b (slot_at_stage step y) y).order.key.stan == m) (Some (cond b (slot_at_stage step y) y)) (slot_at (slots_at_stage step m ys) m) ≡ Some (slot_at_stage step s)
    by_test true e here rest = rw e (ap (λ x. Some (slot_at_stage step x)) (same_Some y s here))
    by_test false e here rest = rw e (rest here)

-- one more
pub slot-more : (slots : List Slot) (s : Slot) (n : ℕ) → slot_at (slots ++ s ∷ []) n ≡ option_or (slot_at slots n) (cond (s.order.key.stan == n) (Some s) None)
slot-more slots s n = find-append (λ x. x.order.key.stan == n) slots (s ∷ [])
