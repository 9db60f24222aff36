-- Who waits, and in which order.
use Rattle.std.proofs.Common.{◌≡◌, ℕ, Bool, true, false, refl, arith, ap, sym, ◌∙◌, List, [], ◌∷◌, ◌++◌, ◌≤◌, ◌+◌, cond, subst}
use Rattle.std.specs.Prelude.{◌==◌, ◌||◌, ◌↔◌, Option, not, filter, nat_le, Some, None, slice_get}
use Rattle.std.specs.Option.{option_to_list}
use Rattle.std.specs.List.{AllByRecursion}
use Rattle.std.proofs.lemmas.Bool.{eqb-true, eq-eqb, both_ways}
use Rattle.std.proofs.lemmas.List.Elements.{All-from_recursion, recursion_from_All, All-weaker, All-push, All-filter}
use Rattle.std.proofs.lemmas.List.Sums.{sum_by-append, sum_by-cons}
use Rattle.std.proofs.lemmas.Grind.{common_steps}
use Rattle.iso_waits.specs.declared.due.Due.{Due}
use Rattle.iso_waits.specs.Waits.{is_first, due_by, due_later, put_off, waits, without, times, IsInOrder, AreInTime}

-- ---- what holds of all who wait

-- what follows from it holds of all too
all-weaker : (P Q : Due → Type 0) (waiting : List Due) → ((d : Due) → P d → Q d) → AllByRecursion P waiting → AllByRecursion Q waiting
all-weaker P Q waiting f all = recursion_from_All Q waiting (All-weaker P Q f waiting (All-from_recursion P waiting all))

-- it holds of one more
all-push : (P : Due → Type 0) (waiting : List Due) (d : Due) → AllByRecursion P waiting → P d → AllByRecursion P (waiting ++ d ∷ [])
all-push P waiting d all p = recursion_from_All P (waiting ++ d ∷ []) (All-push P waiting d (All-from_recursion P waiting all) p)

-- it holds of those that are left
all-filter : (P : Due → Type 0) (test : Due → Bool) (waiting : List Due) → AllByRecursion P waiting → AllByRecursion P (filter test waiting)
all-filter P test waiting all = recursion_from_All P (filter test waiting) (All-filter test P waiting (All-from_recursion P waiting all))

-- ---- how often an order waits

pub times-push : (stan : ℕ) (waiting : List Due) (d : Due) → times stan (waiting ++ d ∷ []) ≡ times stan waiting + cond (d.stan == stan) 1 0
times-push stan waiting d = sum_by-append (λ (d : Due). cond (d.stan == stan) 1 0) waiting (d ∷ []) ∙ grind (arith, common_steps, sum_by-cons (λ (d : Due). cond (d.stan == stan) 1 0) d [])

-- whoever is put off waits as often as before
pub times-put-off : (stan at : ℕ) (waiting : List Due) → times stan (put_off at waiting) ≡ times stan waiting
times-put-off stan at [] = refl
times-put-off stan at (d ∷ ds) =
    let later : Due = record { stan = d.stan; at = at } in
    omega (arith, times-push stan ds later, sum_by-cons (λ (d : Due). cond (d.stan == stan) 1 0) d ds)

pub times-without : (stan closed : ℕ) (waiting : List Due) → times stan (without closed waiting) ≡ cond (stan == closed) 0 (times stan waiting)
times-without stan closed [] = go (stan == closed)
  where
    go : (b : Bool) → times stan [] ≡ cond b 0 (times stan [])
    go true = refl
    go false = refl
times-without stan closed (d ∷ ds) = go (d.stan == closed) refl (d.stan == stan) refl (stan == closed) refl (times-without stan closed ds)
  where
    go : (a : Bool) → (d.stan == closed) ≡ a → (b : Bool) → (d.stan == stan) ≡ b → (c : Bool) → (stan == closed) ≡ c →
        times stan (without closed ds) ≡ cond (stan == closed) 0 (times stan ds) →
        times stan (cond (not (d.stan == closed)) (d ∷ without closed ds) (without closed ds)) ≡ cond (stan == closed) 0 (times stan (d ∷ ds))
    go true e true f true g rest = rw (e, g) (rest ∙ ap {B = ℕ} (λ b. cond b 0 (times stan ds)) g)
    go true e true f false g rest =
        let same : (stan == closed) ≡ true = eq-eqb stan closed (sym (eqb-true d.stan stan f) ∙ eqb-true d.stan closed e) in
        absurd (both_ways (stan == closed) g same)
    go true e false f true g rest = rw (e, g) (rest ∙ ap {B = ℕ} (λ b. cond b 0 (times stan ds)) g)
    go true e false f false g rest =
        rw (e, g) (rest ∙ ap {B = ℕ} (λ b. cond b 0 (times stan ds)) g ∙ omega (arith, sum_by-cons (λ (d : Due). cond (d.stan == stan) 1 0) d ds, ap {B = ℕ} (λ b. cond b 1 0) f))
    go false e true f true g rest =
        let same : (d.stan == closed) ≡ true = eq-eqb d.stan closed (eqb-true d.stan stan f ∙ eqb-true stan closed g) in
        absurd (both_ways (d.stan == closed) e same)
    go false e false f true g rest =
        rw (e, g) (omega (arith, sum_by-cons (λ (d : Due). cond (d.stan == stan) 1 0) d (without closed ds), ap {B = ℕ} (λ b. cond b 1 0) f, rest, ap {B = ℕ} (λ b. cond b 0 (times stan ds)) g))
    go false e b f false g rest =
        rw (e, g) (omega (arith, sum_by-cons (λ (d : Due). cond (d.stan == stan) 1 0) d (without closed ds), sum_by-cons (λ (d : Due). cond (d.stan == stan) 1 0) d ds, rest, ap {B = ℕ} (λ b. cond b 0 (times stan ds)) g))

-- ---- the order

order-push : (waiting : List Due) (x : Due) → IsInOrder waiting → AllByRecursion (λ d. d.at ≤ x.at) waiting → IsInOrder (waiting ++ x ∷ [])
order-push [] x order all = (tt, tt)
order-push (d ∷ ds) x order all = (all-push (λ e. d.at ≤ e.at) ds x order.0 all.0, order-push ds x order.1 all.1)

order-filter : (test : Due → Bool) (waiting : List Due) → IsInOrder waiting → IsInOrder (filter test waiting)
order-filter test [] order = tt
order-filter test (d ∷ ds) order = go (test d) (order-filter test ds order.1)
  where
    go : (b : Bool) → IsInOrder (filter test ds) → IsInOrder (cond b (d ∷ filter test ds) (filter test ds))
    go true rest = (all-filter (λ e. d.at ≤ e.at) test ds order.0, rest)
    go false rest = rest

pub in-time-later : (last more : ℕ) (waiting : List Due) → last ≤ more → AreInTime last waiting → AreInTime more waiting
in-time-later last more waiting h t = record {
  in_order = t.in_order;
  none_later = all-weaker (λ (d : Due). d.at ≤ last) (λ (d : Due). d.at ≤ more) waiting (λ d k. omega (arith, h, k)) t.none_later;
}

pub in-time-push : (last : ℕ) (waiting : List Due) (x : Due) → last ≤ x.at → AreInTime last waiting → AreInTime x.at (waiting ++ x ∷ [])
in-time-push last waiting x h t =
    let all : AllByRecursion (λ (d : Due). d.at ≤ x.at) waiting = all-weaker (λ (d : Due). d.at ≤ last) (λ (d : Due). d.at ≤ x.at) waiting (λ d k. omega (arith, h, k)) t.none_later in
    record { in_order = order-push waiting x t.in_order all; none_later = all-push (λ (d : Due). d.at ≤ x.at) waiting x all (omega arith) }

pub in-time-without : (last stan : ℕ) (waiting : List Due) → AreInTime last waiting → AreInTime last (without stan waiting)
in-time-without last stan waiting t = record {
  in_order = order-filter (λ d. not (d.stan == stan)) waiting t.in_order;
  none_later = all-filter (λ d. d.at ≤ last) (λ d. not (d.stan == stan)) waiting t.none_later;
}

pub in-time-put-off : (last : ℕ) (waiting : List Due) → AreInTime last waiting → AreInTime last (put_off last waiting)
in-time-put-off last [] t = t
in-time-put-off last (d ∷ ds) t = in-time-push last ds (record { stan = d.stan; at = last }) (omega arith) (record { in_order = t.in_order.1; none_later = t.none_later.1 })

-- the first is due first
none-before : (d : Due) (ds : List Due) → IsInOrder (d ∷ ds) → AllByRecursion (λ e. d.at ≤ e.at) (d ∷ ds)
none-before d ds order = (omega arith, order.0)

-- ---- those that are due wait first

none-due : (now : ℕ) (d : Due) (ds : List Due) → nat_le d.at now ≡ false → AllByRecursion (λ e. d.at ≤ e.at) ds → (due_by now ds ≡ []) × (due_later now ds ≡ ds)
none-due now d [] h all = (refl, refl)
none-due now d (e ∷ ds) h all =
    let rest = none-due now d ds h all.1 in
    let later : nat_le e.at now ≡ false = grind (arith, common_steps, h, all.0) in
    (ap (λ b. cond b (e ∷ due_by now ds) (due_by now ds)) later ∙ rest.0, ap (λ b. cond (not b) (e ∷ due_later now ds) (due_later now ds)) later ∙ ap (λ xs. e ∷ xs) rest.1)

pub due-first : (now : ℕ) (waiting : List Due) → IsInOrder waiting → waiting ≡ due_by now waiting ++ due_later now waiting
due-first now [] order = refl
due-first now (d ∷ ds) order = go (nat_le d.at now) refl (due-first now ds order.1)
  where
    go : (b : Bool) → nat_le d.at now ≡ b → ds ≡ due_by now ds ++ due_later now ds → d ∷ ds ≡ due_by now (d ∷ ds) ++ due_later now (d ∷ ds)
    go true e rest = rw e (ap (λ xs. d ∷ xs) rest)
    go false e rest =
        let none = none-due now d ds e order.0 in
        rw (e, none.0, none.1) refl

-- ---- the first

-- who waits first waits
first-waits : (d : Due) (ds : List Due) → 1 ≤ times d.stan (d ∷ ds)
first-waits d ds = omega (arith, sum_by-cons (λ (e : Due). cond (e.stan == d.stan) 1 0) d ds, ap {B = ℕ} (λ b. cond b 1 0) (eq-eqb d.stan d.stan refl))

-- none waits where none waits first
pub none-waits : (waiting : List Due) → (waiting ≡ []) ↔ ((stan : ℕ) → times stan waiting ≡ 0)
none-waits [] = (λ none stan. refl, λ none. refl)
none-waits (d ∷ ds) = (λ none stan. cc, λ none. absurd (omega (arith, first-waits d ds, none d.stan)))

pub first-before : (waiting : List Due) (d : Due) → Some d ≡ slice_get waiting 0 → IsInOrder waiting → AllByRecursion (λ e. d.at ≤ e.at) waiting
first-before [] d h order = cc
first-before (e ∷ ds) d h order = let same : e ≡ d = cc in subst (λ (x : Due). AllByRecursion (λ y. x.at ≤ y.at) (e ∷ ds)) same (none-before e ds order)

-- ---- who waits no longer

-- where the first is the one, the others are those without it
pub without-first : (stan : ℕ) (waiting others : List Due) (first : Option Due) → waiting ≡ option_to_list first ++ others → is_first stan waiting ≡ true
    → without stan others ≡ without stan waiting
without-first stan waiting others None split h = ap (without stan) (sym split)
without-first stan waiting others (Some d) split h =
    let is : (d.stan == stan) ≡ true = rw split at h in
    rw split (rw is refl)

-- where the one doesn't wait, all are those without it
pub without-none : (stan : ℕ) (waiting : List Due) → waits stan waiting ≡ false → without stan waiting ≡ waiting
without-none stan [] h = refl
without-none stan (d ∷ ds) h = go (d.stan == stan) refl h (without-none stan ds)
  where
    go : (b : Bool) → (d.stan == stan) ≡ b → (b || waits stan ds) ≡ false → (waits stan ds ≡ false → without stan ds ≡ ds)
        → cond (not (d.stan == stan)) (d ∷ without stan ds) (without stan ds) ≡ d ∷ ds
    go true e f rest = absurd cc
    go false e f rest = rw e (ap (λ (l : List Due). d ∷ l) (rest f))
