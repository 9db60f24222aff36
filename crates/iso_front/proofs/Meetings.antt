-- When account numbers can begin with prefixes of two kinds.
use Rattle.std.proofs.Common.{◌≡◌, ◌∙◌, ℕ, ◌+◌, ◌-◌, ◌*◌, ◌/◌, ◌^◌, ◌<◌, ◌≤◌, Bool, true, false, nat_le, max, add-one, sym, refl, ap, arith, if◌then◌else◌}
use Rattle.std.proofs.lemmas.Nat.{le-div, pow-add, mul-le, div_below}
use Rattle.std.proofs.lemmas.Bool.Decides.{nat_tests}
use Rattle.std.proofs.Math.Nat.{div-div-eq-div-mul, div-mul-le_self, one-le-pow, div-one, lt-div-mul-add, suc-mul}
use Rattle.iso_order.specs.Pan.{AccountNumber, is_pan}
use Rattle.iso_front.specs.declared.prefixes.Prefixes.{Prefixes}
use Rattle.iso_front.specs.Prefixes.{first_digits, covers, AreApart, Meeting, are_prefixes, reaches, meets}

-- there is a power of ten
pub step-pos : (k : ℕ) → 0 < 10 ^ k
step-pos k = omega (arith, one-le-pow k 10 (omega arith))

-- a division keeps the order
div-le : (a b k : ℕ) → 0 < k → a ≤ b → a / k ≤ b / k
div-le a b k pos le = le-div (a / k) b k pos (omega (arith, div-mul-le_self a k))

-- the first digits of the first digits
front-front : (n a b c : ℕ) → a ≤ b → b ≤ c → n / 10 ^ (c - b) / 10 ^ (b - a) ≡ n / 10 ^ (c - a)
front-front n a b c ab bc =
    let whole : (c - b) + (b - a) ≡ c - a = omega arith in
    div-div-eq-div-mul n (10 ^ (c - b)) (10 ^ (b - a)) ∙ ap (λ (x : ℕ). n / x) (sym (pow-add 10 (c - b) (b - a))) ∙ ap (λ (e : ℕ). n / 10 ^ e) whole

-- what it says that a prefix begins an account number
record Covering (p : Prefixes) (pan : AccountNumber) : Type 0 where
  pub long : p.digits ≤ pan.len
  pub least : p.from ≤ first_digits p.digits pan
  pub most : first_digits p.digits pan ≤ p.to

covering : (p : Prefixes) (pan : AccountNumber) → covers p pan ≡ true → Covering p pan
covering p pan h = record {
  long = grind (arith, nat_tests);
  least = grind (arith, nat_tests);
  most = grind (arith, nat_tests);
}

covered : (p : Prefixes) (pan : AccountNumber) → Covering p pan → covers p pan ≡ true
covered p pan h = grind (arith, nat_tests)

-- an account number that begins with a prefix of each shows that the longer ones reach into the shorter ones
reached : (short long : Prefixes) (pan : AccountNumber) → short.digits ≤ long.digits → covers short pan ≡ true → covers long pan ≡ true
    → reaches (long.digits - short.digits) short long ≡ true
reached short long pan le by_short by_long =
    let s = covering short pan by_short in
    let l = covering long pan by_long in
    let step : ℕ = 10 ^ (long.digits - short.digits) in
    let same : first_digits long.digits pan / step ≡ first_digits short.digits pan = front-front pan.digits short.digits long.digits pan.len le l.long in
    let low : long.from / step ≤ first_digits long.digits pan / step = div-le long.from (first_digits long.digits pan) step (step-pos _) l.least in
    let high : first_digits long.digits pan / step ≤ long.to / step = div-le (first_digits long.digits pan) long.to step (step-pos _) l.most in
    let one : long.from / step ≤ short.to = omega (arith, same, low, s.most) in
    let other : short.from ≤ long.to / step = omega (arith, same, high, s.least) in
    grind (arith, nat_tests, one, other)

-- where the test fails, no account number begins with a prefix of each
pub apart : (one other : Prefixes) → meets one other ≡ false → AreApart one other
apart one other unmet pan by_one by_other = go (nat_le one.digits other.digits) refl unmet
  where
    go : (t : Bool) → nat_le one.digits other.digits ≡ t
        → (if t then reaches (other.digits - one.digits) one other else reaches (one.digits - other.digits) other one) ≡ false → ⊥
    go true is unmet =
        let met : reaches (other.digits - one.digits) one other ≡ true = reached one other pan (grind (arith, nat_tests, is)) by_one by_other in
        cc
    go false is unmet =
        let met : reaches (one.digits - other.digits) other one ≡ true = reached other one pan (grind (arith, nat_tests, is)) by_other by_one in
        cc

-- what it says of prefixes that they are of 1 to 19 digits, and in order
record Ordered (p : Prefixes) : Type 0 where
  pub some : 1 ≤ p.digits
  pub few : p.digits ≤ 19
  pub order : p.from ≤ p.to
  pub fits : p.to < 10 ^ p.digits

ordered : (p : Prefixes) → are_prefixes p ≡ true → Ordered p
ordered p h = record {
  some = grind (arith, nat_tests);
  few = grind (arith, nat_tests);
  order = grind (arith, nat_tests);
  fits = grind (arith, nat_tests);
}

is-pan : (n len : ℕ) → 1 ≤ len → len ≤ 19 → n < 10 ^ len → is_pan (record { digits = n; len = len }) ≡ true
is-pan n len some few fits = grind (arith, nat_tests)

-- of the longer prefixes that begin with shorter ones, the first
abbrev first-met : Prefixes → Prefixes → ℕ → ℕ
first-met short long step = max long.from (short.from * step)

-- the digits before the last ones of it
front-most : (short long : Prefixes) (step : ℕ) → 0 < step → long.from / step ≤ short.to → short.from ≤ short.to
    → first-met short long step / step ≤ short.to
front-most short long step pos low order =
    let n : ℕ = first-met short long step in
    let under : long.from < long.from / step * step + step = lt-div-mul-add pos in
    let one : long.from / step * step ≤ short.to * step = mul-le (long.from / step) step short.to step low (omega arith) in
    let other : short.from * step ≤ short.to * step = mul-le short.from step short.to step order (omega arith) in
    let product : (short.to + 1) * step ≡ short.to * step + step = rw (add-one, suc-mul) in
    let below : n < (short.to + 1) * step = rw product (omega arith) in
    omega (arith, div_below n step (short.to + 1) pos below)

-- all of an account number's digits are its first ones
all-first : (n len : ℕ) → first_digits len (record { digits = n; len = len }) ≡ n
all-first n len =
    let none : len - len ≡ 0 = omega arith in
    ap (λ (k : ℕ). n / 10 ^ k) none ∙ div-one n

-- where longer prefixes reach into shorter ones, an account number begins with one of each
met : (short long : Prefixes) → short.digits ≤ long.digits → are_prefixes short ≡ true → are_prefixes long ≡ true
    → reaches (long.digits - short.digits) short long ≡ true → Meeting short long
met short long le short_good long_good reach =
    let s = ordered short short_good in
    let l = ordered long long_good in
    let step : ℕ = 10 ^ (long.digits - short.digits) in
    let pos : 0 < step = step-pos (long.digits - short.digits) in
    let n : ℕ = first-met short long step in
    let low : long.from / step ≤ short.to = grind (arith, nat_tests, reach) in
    let high : short.from ≤ long.to / step = grind (arith, nat_tests, reach) in
    let under : short.from * step ≤ long.to / step * step = mul-le short.from step (long.to / step) step high (omega arith) in
    let above : long.to / step * step ≤ long.to = div-mul-le_self long.to step in
    let least : long.from ≤ n = omega arith in
    let least' : short.from * step ≤ n = omega arith in
    let most : n ≤ long.to = omega (arith, l.order) in
    let whole : first_digits long.digits (record { digits = n; len = long.digits }) ≡ n = all-first n long.digits in
    record {
      pan = record { digits = n; len = long.digits };
      valid = is-pan n long.digits l.some l.few (omega (arith, most, l.fits));
      by_one = covered short (record { digits = n; len = long.digits })
          (record { long = le; least = le-div short.from n step pos least'; most = front-most short long step pos low s.order });
      by_other = covered long (record { digits = n; len = long.digits })
          (record { long = omega arith; least = omega (arith, whole, least); most = omega (arith, whole, most) });
    }

turned : (one other : Prefixes) → Meeting one other → Meeting other one
turned one other m = record { pan = m.pan; valid = m.valid; by_one = m.by_other; by_other = m.by_one }

-- where the test holds, an account number begins with a prefix of each
pub meeting : (one other : Prefixes) → meets one other ≡ true → are_prefixes one ≡ true → are_prefixes other ≡ true → Meeting one other
meeting one other meet one_good other_good = go (nat_le one.digits other.digits) refl meet
  where
    go : (t : Bool) → nat_le one.digits other.digits ≡ t
        → (if t then reaches (other.digits - one.digits) one other else reaches (one.digits - other.digits) other one) ≡ true
        → Meeting one other
    go true is meet = met one other (grind (arith, nat_tests, is)) one_good other_good meet
    go false is meet = turned other one (met other one (grind (arith, nat_tests, is)) other_good one_good meet)
