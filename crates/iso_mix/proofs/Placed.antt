-- Where orders lie.
use Rattle.std.proofs.Common.{◌≡◌, ◌≢◌, ℕ, zero, suc, Bool, true, false, refl, arith, ap, sym, ◌∙◌, List, [], ◌∷◌, ◌++◌, length, ◌<◌, ◌≤◌, ◌+◌, ◌-◌, ◌*◌, ◌%◌, cond, slice_set}
use Rattle.std.specs.Prelude.{◌==◌, nat_le, nat_lt, Option, Some, None, slice_get, option_map}
use Rattle.std.proofs.lemmas.Bool.{eqb-true, eqb-false, eq-eqb, ne_eqb}
use Rattle.std.proofs.lemmas.Grind.{common_steps}
use Rattle.std.proofs.lemmas.Option.{none-some, same_Some, slice_get_past}
use Rattle.std.proofs.lemmas.List.{length-append}
use Rattle.iso_order.specs.Order.{Instruction}
use Rattle.iso_mix.specs.declared.asked.Asked.{Asked}
use Rattle.iso_mix.specs.declared.asked.Side.{Side}
use Rattle.iso_mix.specs.Asked.{place_of, follows, part_of, part_in, asked_at, changed_in, changed_at, with_code, answered, sides_answered, unanswered, followed, sides_followed, is_nothing}

-- ---- lists

get-last : {X : Type 0} (xs : List X) (x : X) → slice_get (xs ++ x ∷ []) (length xs) ≡ Some x
get-last [] x = refl
get-last (y ∷ ys) x = get-last ys x

get-front : {X : Type 0} (xs : List X) (x : X) (i : ℕ) → i < length xs → slice_get (xs ++ x ∷ []) i ≡ slice_get xs i
get-front [] x i h = absurd (omega (arith, h))
get-front (y ∷ ys) x zero h = refl
get-front (y ∷ ys) x (suc i) h = get-front ys x i (omega (arith, h))

get-set-same : {X : Type 0} (xs : List X) (i : ℕ) (x y : X) → slice_get xs i ≡ Some y → slice_get (slice_set xs i x) i ≡ Some x
get-set-same [] i x y h = cc
get-set-same (z ∷ zs) zero x y h = refl
get-set-same (z ∷ zs) (suc i) x y h = get-set-same zs i x y h

get-set-other : {X : Type 0} (xs : List X) (i j : ℕ) (x : X) → i ≢ j → slice_get (slice_set xs i x) j ≡ slice_get xs j
get-set-other [] i j x h = refl
get-set-other (z ∷ zs) zero zero x h = absurd (h refl)
get-set-other (z ∷ zs) zero (suc j) x h = refl
get-set-other (z ∷ zs) (suc i) zero x h = refl
get-set-other (z ∷ zs) (suc i) (suc j) x h = get-set-other zs i j x (λ e. h (ap suc e))

-- ---- numbers

pub is-le : (a b : ℕ) → nat_le a b ≡ true → a ≤ b
is-le a b h = grind (arith, common_steps)

pub not-le : (a b : ℕ) → nat_le a b ≡ false → b < a
not-le a b h = grind (arith, common_steps)

pub is-lt : (a b : ℕ) → nat_lt a b ≡ true → a < b
is-lt a b h = grind (arith, common_steps)

pub not-lt : (a b : ℕ) → nat_lt a b ≡ false → b ≤ a
not-lt a b h = grind (arith, common_steps)

-- a place and which of the two it is make a trace number
second : (n : ℕ) → follows n ≡ true → (999999 - n) % 2 ≡ 1
second n h = eqb-true ((999999 - n) % 2) 1 h

first : (n : ℕ) → follows n ≡ false → (999999 - n) % 2 ≡ 0
first n h = omega (arith, eqb-false ((999999 - n) % 2) 1 h)

pub one-number : (n m : ℕ) → n ≤ 999999 → m ≤ 999999 → place_of n ≡ place_of m → follows n ≡ follows m → n ≡ m
one-number n m hn hm p f = go (follows m) refl
  where
    go : (b : Bool) → follows m ≡ b → n ≡ m
    go true e = omega (arith, hn, hm, p, second m e, second n (f ∙ e))
    go false e = omega (arith, hn, hm, p, first m e, first n (f ∙ e))

-- ---- one more

pub at-pushed : (sides : List Side) (s : Side) (n : ℕ) → s.follower ≡ None → 2 * length sides < 999999 →
    asked_at (sides ++ s ∷ []) n ≡ cond (n == 999999 - 2 * length sides) (Some s.first) (asked_at sides n)
at-pushed sides s n none few = by_most (nat_le n 999999) refl
  where
    apart : n ≢ 999999 - 2 * length sides → (x : Option Asked) → x ≡ cond (n == 999999 - 2 * length sides) (Some s.first) x
    apart h x = sym (ap (λ b. cond b (Some s.first) x) (ne_eqb n (999999 - 2 * length sides) h))

    by_part : n ≤ 999999 → place_of n ≡ length sides → (f : Bool) → follows n ≡ f →
        part_of f s ≡ cond (n == 999999 - 2 * length sides) (Some s.first) (part_in f (slice_get sides (place_of n)))
    by_part most at true e =
        none ∙ sym (ap (part_in true) (slice_get_past sides (place_of n) (omega (arith, at))))
        ∙ apart (λ is. omega (arith, second n e, is, few)) (part_in true (slice_get sides (place_of n)))
    by_part most at false e =
        sym (ap (λ b. cond b (Some s.first) (part_in false (slice_get sides (place_of n))))
        (eq-eqb n (999999 - 2 * length sides) (omega (arith, first n e, at, most))))

    by_place : n ≤ 999999 → (b c : Bool) → nat_lt (place_of n) (length sides) ≡ b → (place_of n == length sides) ≡ c →
        part_in (follows n) (slice_get (sides ++ s ∷ []) (place_of n)) ≡ cond (n == 999999 - 2 * length sides) (Some s.first) (part_in (follows n) (slice_get sides (place_of n)))
    by_place most true c h k =
        let less : place_of n < length sides = is-lt (place_of n) (length sides) h in
        ap (part_in (follows n)) (get-front sides s (place_of n) less)
        ∙ apart (λ is. omega (arith, less, is, few)) (part_in (follows n) (slice_get sides (place_of n)))
    by_place most false true h k =
        let at : place_of n ≡ length sides = eqb-true (place_of n) (length sides) k in
        ap (λ i. part_in (follows n) (slice_get (sides ++ s ∷ []) i)) at ∙ ap (part_in (follows n)) (get-last sides s)
        ∙ by_part most at (follows n) refl
    by_place most false false h k =
        let more : length sides < place_of n = omega (arith, not-lt (place_of n) (length sides) h, eqb-false (place_of n) (length sides) k) in
        ap (part_in (follows n)) (slice_get_past (sides ++ s ∷ []) (place_of n) (omega (arith, more, length-append sides (s ∷ [])))
        ∙ sym (slice_get_past sides (place_of n) (omega (arith, more))))
        ∙ apart (λ is. omega (arith, more, is, few)) (part_in (follows n) (slice_get sides (place_of n)))

    by_most : (b : Bool) → nat_le n 999999 ≡ b →
        asked_at (sides ++ s ∷ []) n ≡ cond (n == 999999 - 2 * length sides) (Some s.first) (asked_at sides n)
    by_most true h =
        rw h (by_place (is-le n 999999 h) (nat_lt (place_of n) (length sides)) (place_of n == length sides) refl refl)
    by_most false h =
        let more : 999999 < n = not-le n 999999 h in
        rw h (apart (λ is. omega (arith, more, is, few)) None)

-- ---- a change at a place

changed-some : (step : Side → Side) (place : ℕ) (sides : List Side) (s : Side) → slice_get sides place ≡ Some s →
    changed_at step place sides ≡ slice_set sides place (step s)
changed-some step place sides s there = ap (changed_in step place sides) there

-- what is found there after it, and elsewhere
changed-here : (step : Side → Side) (place : ℕ) (sides : List Side) (s : Side) (n : ℕ) → slice_get sides place ≡ Some s → n ≤ 999999 → place_of n ≡ place →
    asked_at (changed_at step place sides) n ≡ part_of (follows n) (step s)
changed-here step place sides s n there most at =
    let le : nat_le n 999999 ≡ true = grind (arith, common_steps, most) in
    ap (λ (l : List Side). asked_at l n) (changed-some step place sides s there)
    ∙ ap (λ b. cond b (part_in (follows n) (slice_get (slice_set sides place (step s)) (place_of n))) None) le
    ∙ ap (λ i. part_in (follows n) (slice_get (slice_set sides place (step s)) i)) at
    ∙ ap (part_in (follows n)) (get-set-same sides place (step s) s there)

found-here : (place : ℕ) (sides : List Side) (s : Side) (n : ℕ) → slice_get sides place ≡ Some s → n ≤ 999999 → place_of n ≡ place →
    asked_at sides n ≡ part_of (follows n) s
found-here place sides s n there most at =
    let le : nat_le n 999999 ≡ true = grind (arith, common_steps, most) in
    ap (λ b. cond b (part_in (follows n) (slice_get sides (place_of n))) None) le
    ∙ ap (λ i. part_in (follows n) (slice_get sides i)) at ∙ ap (part_in (follows n)) there

changed-elsewhere : (step : Side → Side) (place : ℕ) (sides : List Side) (s : Side) (n : ℕ) → slice_get sides place ≡ Some s → place_of n ≢ place →
    asked_at (changed_at step place sides) n ≡ asked_at sides n
changed-elsewhere step place sides s n there apart =
    ap (λ (l : List Side). asked_at l n) (changed-some step place sides s there)
    ∙ ap (λ (x : Option Side). cond (nat_le n 999999) (part_in (follows n) x) None) (get-set-other sides place (place_of n) (step s) (λ e. apart (sym e)))

-- above all trace numbers there is nothing
past : (sides : List Side) (n : ℕ) → 999999 < n → asked_at sides n ≡ None
past sides n more = ap (λ b. cond b (part_in (follows n) (slice_get sides (place_of n))) None) (let h : nat_le n 999999 ≡ false = grind (arith, common_steps, more) in h)

-- a change of one of the two that lie at a place, and of nothing else
pub at-changed : (step : Side → Side) (place : ℕ) (sides : List Side) (s : Side) (m : ℕ) (x : Option Asked) → slice_get sides place ≡ Some s → m ≤ 999999 → place_of m ≡ place →
    part_of (follows m) (step s) ≡ x → ((f : Bool) → f ≢ follows m → part_of f (step s) ≡ part_of f s) →
    (n : ℕ) → asked_at (changed_at step place sides) n ≡ cond (n == m) x (asked_at sides n)
at-changed step place sides s m x there most at this other n = by_most (nat_le n 999999) refl
  where
    apart : n ≢ m → (y : Option Asked) → y ≡ cond (n == m) x y
    apart h y = sym (ap (λ b. cond b x y) (ne_eqb n m h))

    by_part : n ≤ 999999 → place_of n ≡ place → (c : Bool) → (n == m) ≡ c → asked_at (changed_at step place sides) n ≡ cond (n == m) x (asked_at sides n)
    by_part le here true e =
        let is : n ≡ m = eqb-true n m e in
        ap (asked_at (changed_at step place sides)) is ∙ changed-here step place sides s m there most at ∙ this
        ∙ sym (ap (λ b. cond b x (asked_at sides n)) e)
    by_part le here false e =
        let not_m : n ≢ m = eqb-false n m e in
        changed-here step place sides s n there le here
        ∙ other (follows n) (λ f. not_m (one-number n m le most (here ∙ sym at) f))
        ∙ sym (found-here place sides s n there le here) ∙ apart not_m (asked_at sides n)

    by_place : n ≤ 999999 → (c : Bool) → (place_of n == place) ≡ c → asked_at (changed_at step place sides) n ≡ cond (n == m) x (asked_at sides n)
    by_place le true e = by_part le (eqb-true (place_of n) place e) (n == m) refl
    by_place le false e =
        let away : place_of n ≢ place = eqb-false (place_of n) place e in
        changed-elsewhere step place sides s n there away ∙ apart (λ is. away (ap place_of is ∙ at)) (asked_at sides n)

    by_most : (b : Bool) → nat_le n 999999 ≡ b → asked_at (changed_at step place sides) n ≡ cond (n == m) x (asked_at sides n)
    by_most true h = by_place (is-le n 999999 h) (place_of n == place) refl
    by_most false h =
        let more : 999999 < n = not-le n 999999 h in
        past (changed_at step place sides) n more ∙ sym (past sides n more) ∙ apart (λ is. omega (arith, more, is, most)) (asked_at sides n)

-- ---- the first answer to an order

-- where an order lies
pub lies : (sides : List Side) (m : ℕ) (a : Asked) → asked_at sides m ≡ Some a → (s : Side) × (slice_get sides (place_of m) ≡ Some s) × (m ≤ 999999) × (part_of (follows m) s ≡ Some a)
lies sides m a h = by_most (nat_le m 999999) refl
  where
    by_side : m ≤ 999999 → (x : Option Side) → slice_get sides (place_of m) ≡ x → part_in (follows m) x ≡ Some a → (s : Side) × (slice_get sides (place_of m) ≡ Some s) × (m ≤ 999999) × (part_of (follows m) s ≡ Some a)
    by_side le None e k = cc
    by_side le (Some s) e k = (s, e, le, k)

    by_most : (b : Bool) → nat_le m 999999 ≡ b → (s : Side) × (slice_get sides (place_of m) ≡ Some s) × (m ≤ 999999) × (part_of (follows m) s ≡ Some a)
    by_most true e =
        by_side (is-le m 999999 e) (slice_get sides (place_of m)) refl
        (sym (ap (λ b. cond b (part_in (follows m) (slice_get sides (place_of m))) None) e) ∙ h)
    by_most false e = absurd (none-some a (sym (past sides m (not-le m 999999 e)) ∙ h))

answered-this : (f : Bool) (code : ℕ) (s : Side) (a : Asked) → part_of f s ≡ Some a → part_of f (answered f code s) ≡ Some (with_code code a)
answered-this true code s a h = ap (option_map (with_code code)) h
answered-this false code s a h = ap (λ (y : Asked). Some (with_code code y)) (same_Some s.first a h)

answered-other : (f g : Bool) (code : ℕ) (s : Side) → f ≢ g → part_of f (answered g code s) ≡ part_of f s
answered-other true true code s h = absurd (h refl)
answered-other true false code s h = refl
answered-other false true code s h = refl
answered-other false false code s h = absurd (h refl)

pub at-answered : (sides : List Side) (m code : ℕ) (a : Asked) → asked_at sides m ≡ Some a →
    (n : ℕ) → asked_at (sides_answered m code sides) n ≡ cond (n == m) (Some (with_code code a)) (asked_at sides n)
at-answered sides m code a h =
    let l = lies sides m a h in
    at-changed (answered (follows m) code) (place_of m) sides l.0 m (Some (with_code code a)) l.1 l.2 refl
    (answered-this (follows m) code l.0 a l.3) (λ f apart. answered-other f (follows m) code l.0 apart)

-- ---- what follows a hold

pub second-place : (place : ℕ) → 2 * place + 1 < 999999 → (place_of (999998 - 2 * place) ≡ place) × (follows (999998 - 2 * place) ≡ true)
second-place place few = (omega (arith, few), eq-eqb ((999999 - (999998 - 2 * place)) % 2) 1 (omega (arith, few)))

followed-other : (f : Bool) (o : Instruction) (s : Side) → f ≢ true → part_of f (followed o s) ≡ part_of f s
followed-other true o s h = absurd (h refl)
followed-other false o s h = refl

pub at-followed : (sides : List Side) (place : ℕ) (s : Side) (o : Instruction) → slice_get sides place ≡ Some s → 2 * place + 1 < 999999 →
    (n : ℕ) → asked_at (sides_followed place o sides) n ≡ cond (n == 999998 - 2 * place) (Some (unanswered o)) (asked_at sides n)
at-followed sides place s o there few =
    let p = second-place place few in
    at-changed (followed o) place sides s (999998 - 2 * place) (Some (unanswered o)) there (omega arith) p.0
    (ap (λ f. part_of f (followed o s)) p.1) (λ f apart. followed-other f o s (λ is. apart (is ∙ sym p.1)))

-- nothing lies where nothing follows
nothing : (x : Option Asked) → is_nothing x ≡ true → x ≡ None
nothing None h = refl
nothing (Some a) h = cc

pub none-followed : (sides : List Side) (place : ℕ) (s : Side) → slice_get sides place ≡ Some s → is_nothing s.follower ≡ true → 2 * place + 1 < 999999 → asked_at sides (999998 - 2 * place) ≡ None
none-followed sides place s there none few =
    let p = second-place place few in
    found-here place sides s (999998 - 2 * place) there (omega arith) p.0 ∙ ap (λ f. part_of f s) p.1 ∙ nothing s.follower none

-- nor behind the last
pub none-behind : (sides : List Side) (n : ℕ) → n ≤ 999999 → length sides ≤ place_of n → asked_at sides n ≡ None
none-behind sides n most behind =
    let le : nat_le n 999999 ≡ true = grind (arith, common_steps, most) in
    ap (λ b. cond b (part_in (follows n) (slice_get sides (place_of n))) None) le
    ∙ ap (part_in (follows n)) (slice_get_past sides (place_of n) behind)
