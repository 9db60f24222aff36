-- At which messages a rule decides.
use Rattle.std.proofs.Common.{◌≡◌, ◌∙◌, ℕ, zero, suc, ◌+◌, ◌-◌, ◌*◌, ◌/◌, ◌%◌, ◌<◌, ◌≤◌, Bool, true, false, refl, sym, ap, arith, List, [], ◌∷◌, eq-eqb, add-mul}
use Rattle.std.specs.Prelude.{◌↔◌, ◌==◌, ◌&&◌, if◌then◌else◌}
use Rattle.std.proofs.Math.Nat.{mul-mod_left, mod-add-div', suc-mul}
use Rattle.std.proofs.lemmas.Nat.{mod-mul-add}
use Rattle.std.proofs.lemmas.List.Sums.{sum_by-cons}
use Rattle.std.proofs.lemmas.Bool.{and_parts, and_from, eqb-true, eqb-false}
use Rattle.iso_wire.specs.Contents.{Contents}
use Rattle.iso_script.specs.Fitting.{fits}
use Rattle.iso_script.specs.Turns.{begun, counted, counted_all, fitting, is_due, TurnsByCount}
use Rattle.iso_script.specs.declared.behaviour.Rule.{Rule}
use Rattle.iso_script.specs.declared.counted.Counted.{Counted}

one_at_least : (n : ℕ) → (n ≡ 0 → ⊥) → 1 ≤ n
one_at_least zero not = absurd (not refl)
one_at_least (suc n) not = omega arith

module _ (r : Rule) where
  -- the rule that passes so many over
  abbrev passing : ℕ → Counted
  passing left = record { rule = r; left = left }

  abbrev next : ℕ → ℕ
  next left = if left == 0 then r.every - 1 else left - 1

  counts_fitting : (m : Contents) (left : ℕ) → fits r.pattern m ≡ true → counted m (passing left) ≡ passing (next left)
  unfolding counted
  counts_fitting m left is = ap (λ (b : Bool). if b then passing (next left) else passing left) is

  counts_no_other : (m : Contents) (left : ℕ) → fits r.pattern m ≡ false → counted m (passing left) ≡ passing left
  unfolding counted
  counts_no_other m left is = ap (λ (b : Bool). if b then passing (next left) else passing left) is

  fitting_cons : (m : Contents) (ms : List Contents) → fitting r (m ∷ ms) ≡ (if fits r.pattern m then 1 else 0) + fitting r ms
  fitting_cons m ms = sum_by-cons (λ (x : Contents). if fits r.pattern x then 1 else 0) m ms

  -- the rule passes so many over, behind some messages, of which so many fit: together with the first so many they are so many
  -- whole rounds
  record Passes (left : ℕ) (ms : List Contents) : Type 0 where
    after : ℕ
    rounds : ℕ
    is : counted_all (passing left) ms ≡ passing after
    below : after < r.every
    sum : after + fitting r ms ≡ left + rounds * r.every

  more : (left now : ℕ) (m : Contents) (ms : List Contents) (extra : ℕ) → fits r.pattern m ≡ true → next left ≡ now → now + 1 ≡ left + extra * r.every
      → Passes now ms → Passes left (m ∷ ms)
  more left now m ms extra is step sum p =
      let one : fitting r (m ∷ ms) ≡ 1 + fitting r ms = fitting_cons m ms ∙ ap (λ (b : Bool). (if b then 1 else 0) + fitting r ms) is in
      let rounds : (extra + p.rounds) * r.every ≡ extra * r.every + p.rounds * r.every = add-mul extra p.rounds r.every in
      record {
        after = p.after;
        rounds = extra + p.rounds;
        is = ap (λ (c : Counted). counted_all c ms) (counts_fitting m left is ∙ ap passing step) ∙ p.is;
        below = p.below;
        sum = omega (arith, one, rounds, sum, p.sum);
      }

  passes : (ms : List Contents) (left : ℕ) → left < r.every → Passes left ms
  passes [] left below = record { after = left; rounds = 0; is = refl; below = below; sum = omega arith }
  passes (m ∷ ms) left below = by (passes ms) (fits r.pattern m) refl
    where
      at_zero : ((n : ℕ) → n < r.every → Passes n ms) → fits r.pattern m ≡ true → (b : Bool) → (left == 0) ≡ b → Passes left (m ∷ ms)
      at_zero rest is true e =
          let zero_is = eqb-true left 0 e in
          more left (r.every - 1) m ms 1 is (ap (λ (b : Bool). if b then r.every - 1 else left - 1) e) (omega (arith, below, zero_is))
          (rest (r.every - 1) (omega (arith, below)))
      at_zero rest is false e =
          let some : 1 ≤ left = one_at_least left (eqb-false left 0 e) in
          more left (left - 1) m ms 0 is (ap (λ (b : Bool). if b then r.every - 1 else left - 1) e) (omega (arith, some))
          (rest (left - 1) (omega (arith, below)))

      by : ((n : ℕ) → n < r.every → Passes n ms) → (b : Bool) → fits r.pattern m ≡ b → Passes left (m ∷ ms)
      by rest true is = at_zero rest is (left == 0) refl
      by rest false is =
          let p = rest left below in
          let none : fitting r (m ∷ ms) ≡ 0 + fitting r ms = fitting_cons m ms ∙ ap (λ (b : Bool). (if b then 1 else 0) + fitting r ms) is in
          record {
            after = p.after;
            rounds = p.rounds;
            is = ap (λ (c : Counted). counted_all c ms) (counts_no_other m left is) ∙ p.is;
            below = p.below;
            sum = omega (arith, none, p.sum);
          }

  module _ (ms : List Contents) (m : Contents) (some : 1 ≤ r.every) where
    abbrev p : Passes (r.every - 1) ms
    p = passes ms (r.every - 1) (omega (arith, some))

    due_is : is_due m (counted_all (begun r) ms) ≡ (fits r.pattern m && (p.after == 0))
    due_is = ap (is_due m) p.is

    whole : p.after + (fitting r ms + 1) ≡ (suc p.rounds) * r.every
    whole = omega (arith, some, p.sum, suc-mul p.rounds r.every)

    round : p.after ≡ 0 → (fitting r ms + 1) % r.every ≡ 0
    round is =
        let all : fitting r ms + 1 ≡ (suc p.rounds) * r.every = omega (arith, is, whole) in
        ap (λ (n : ℕ). n % r.every) all ∙ mul-mod_left (suc p.rounds) r.every

    none_left : (fitting r ms + 1) % r.every ≡ 0 → p.after ≡ 0
    none_left is =
        let d = (fitting r ms + 1) / r.every in
        let parts : (fitting r ms + 1) % r.every + d * r.every ≡ fitting r ms + 1 = mod-add-div' (fitting r ms + 1) r.every in
        let all : d * r.every + p.after ≡ (suc p.rounds) * r.every = omega (arith, is, parts, whole) in
        sym (mod-mul-add d r.every p.after p.below) ∙ ap (λ (n : ℕ). n % r.every) all ∙ mul-mod_left (suc p.rounds) r.every

    decides : (is_due m (counted_all (begun r) ms) ≡ true) ↔ ((fits r.pattern m ≡ true) × ((fitting r ms + 1) % r.every ≡ 0))
    decides = (
      λ due.
          let both = and_parts (fits r.pattern m) (p.after == 0) (sym due_is ∙ due) in
          (both.0, round (eqb-true p.after 0 both.1)),
      λ is. due_is ∙ and_from (fits r.pattern m) (p.after == 0) is.0 (eq-eqb p.after 0 (none_left is.1)),
    )

pub turns_by_count : TurnsByCount
turns_by_count r ms m some = decides r ms m some
