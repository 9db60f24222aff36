use Rattle.std.proofs.Common.{◌≡◌, ◌≤◌, ◌-◌, ◌+◌, ℕ, length, List, ◌++◌, take, drop, replicate, ap, ◌∙◌, arith, inl, inr}
use Rattle.std.proofs.lemmas.Bool.{cases_lt}
use Rattle.std.proofs.lemmas.Bool.Decides.{nat_tests}
use Rattle.std.proofs.lemmas.List.{drop-drop, length-take-le, length-drop}
use Rattle.iso_wire.specs.Masking.{shown_front, shown_end}
use Rattle.iso_order.specs.Pan.{masked_digits}
use Rattle.iso_order.proofs.pan.hide.Goals as goal

-- what is shown of an account number at both ends is no more than there is
ends_fit : (n : ℕ) → shown_front 2 n + shown_end 2 n ≤ n
ends_fit n =
    elim (cases_lt n 13) [
      | inl short ↦ grind (arith, nat_tests)
      | inr long ↦ grind (arith, nat_tests)
    ]

-- asterisks in the place of all that isn't shown
middle : (digits new : List ℕ) (start hidden : ℕ) → start ≡ shown_front 2 (length digits) → hidden ≡ length digits - shown_front 2 (length digits) - shown_end 2 (length digits)
    → new ≡ replicate (length (take (start + hidden - start) (drop start digits))) 42 → take start digits ++ (new ++ drop (start + hidden - start) (drop start digits)) ≡ masked_digits digits
middle digits new start hidden first many filled =
    let n : ℕ = length digits in
    let few = ends_fit n in
    let count : start + hidden - start ≡ n - shown_front 2 n - shown_end 2 n = omega (arith, many) in
    let within : start + hidden - start ≤ length (drop start digits) = omega (arith, count, first, length-drop start digits) in
    let size : length (take (start + hidden - start) (drop start digits)) ≡ n - shown_front 2 n - shown_end 2 n = length-take-le (start + hidden - start) (drop start digits) within ∙ count in
    let places : start + (start + hidden - start) ≡ n - shown_end 2 n = omega (arith, count, first, few) in
    let rest : drop (start + hidden - start) (drop start digits) ≡ drop (n - shown_end 2 n) digits = drop-drop (start + hidden - start) start digits ∙ ap (λ (k : ℕ). drop k digits) places in
    let stars : new ≡ replicate (n - shown_front 2 n - shown_end 2 n) 42 = filled ∙ ap (λ (k : ℕ). replicate k 42) size in
    rw (stars, rest) (ap (λ (k : ℕ). take k digits ++ (replicate (n - shown_front 2 n - shown_end 2 n) 42 ++ drop (n - shown_end 2 n) digits)) first)

pub returns : goal.returns
returns c =
    let few = ends_fit (length c.args.digits.now) in
    let start : length c.masked-shown.result.front.now ≡ shown_front 2 (length c.args.digits.now) = ap length c.masked-shown.ensures.front ∙ length-take-le _ _ (omega (arith, few)) in
    middle c.args.digits.now c.fill.new.self (length c.masked-shown.result.front.now) c.masked-shown.result.hidden start c.masked-shown.ensures.hidden (c.fill.ensures.after (λ y is. is))
