-- The response to an order tells its key and the answer's code.
use Rattle.std.proofs.Common.{◌≡◌, ℕ, ◌+◌, ◌-◌, ◌/◌, ◌%◌, ◌<◌, ◌≤◌, Bool, true, false, ◌&&◌, List, [], ◌∷◌, ◌++◌, Option, Some, refl, sym, ap, subst, ◌∙◌, arith, eq-eqb, le-leb}
use Rattle.std.specs.Prelude.{◌==◌, ◌||◌, nat_le, nat_lt, not, unwrap_or, if◌then◌else◌}
use Rattle.std.proofs.lemmas.Bool.{and_parts, and_from, eqb-true, leb-true}
use Rattle.std.proofs.lemmas.Bool.Decides.{nat_tests}
use Rattle.iso_wire.specs.Contents.{Contents}
use Rattle.iso_wire.specs.Decimal.{decimal, are_digits, number}
use Rattle.iso_wire.specs.DecimalLaws.{DecimalLaws}
use Rattle.iso_order.specs.declared.key.TxKey.{TxKey}
use Rattle.iso_order.specs.declared.verdict.Verdict.{Verdict}
use Rattle.iso_order.specs.declared.verdict.Verdict.TheVariants.{Order, Reply, Silent}
use Rattle.iso_order.specs.Fields.{version, class, function, origin, base_of, text, has_key, key_of}
use Rattle.iso_parts.specs.Mti.{is_answered}
use Rattle.iso_order.specs.Key.{is_valid_key}
use Rattle.iso_order.specs.Outcome.{Outcome}
use Rattle.iso_order.specs.Response.{response, response_mti, element}
use Rattle.iso_order.specs.Told.{ResponsesTell, told_of, is_answer, answered_base, answered_key}
use Rattle.iso_order.specs.Verdict.{first_of, answered_lines, network_lines, key_lines, reversal_lines, completion_lines, account_lines, act_lines, amount_lines, credit_verdict, verdict, IfOrder}
use Rattle.iso_order.proofs.Ascending.{response-each}
use Rattle.iso_order.proofs.Shown.{not_false}
use Rattle.iso_order.proofs.Valid.{even_digit, key-valid}

-- ---- what a message with an order is

abbrev Lines : Type 0
Lines = List (Bool × Verdict)

abbrev is_order : Verdict → Bool
is_order (Order o) = true
is_order (Reply code) = false
is_order Silent = false

passed_by : (t : Bool) (v w : Verdict) → is_order (if t then v else w) ≡ true → is_order v ≡ false → (t ≡ false) × (is_order w ≡ true)
passed_by true v w h none = absurd cc
passed_by false v w h none = (refl, h)

-- an order has passed a line of another verdict
passed : (line : Bool × Verdict) (lines : Lines) (last : Verdict) → is_order line.1 ≡ false → is_order (first_of (line ∷ lines) last) ≡ true → (line.0 ≡ false) × (is_order (first_of lines last) ≡ true)
passed line lines last none h = passed_by line.0 line.1 (first_of lines last) h none

record Ordered (m : Contents) : Type 0 where
  answered : (version m == 0 && is_answered (function m)) ≡ true
  origin : nat_lt 5 (origin m) ≡ false
  served : (class m == 1 || class m == 2 || class m == 4) ≡ true
  keyed : has_key m ≡ true

-- a message whose verdict is an order has passed the first lines
ordered : (m : Contents) → is_order (verdict m) ≡ true → Ordered m
unfolding verdict
ordered m h =
    let rest = reversal_lines m ++ completion_lines m ++ account_lines m ++ act_lines m ++ amount_lines m in
    let last = credit_verdict m in
    let first = passed (not (version m == 0 && is_answered (function m)), Silent) ((nat_lt 5 (origin m), Reply 12) ∷ (network_lines m ++ key_lines m ++ rest)) last refl h in
    let second = passed (nat_lt 5 (origin m), Reply 12) (network_lines m ++ key_lines m ++ rest) last refl first.1 in
    let third = passed (class m == 8 && not (are_digits 3 3 (text m 70)), Reply 30) ((class m == 8 && (number (text m 70) == 1 || number (text m 70) == 2 || number (text m 70) == 301), Reply 0) ∷ (key_lines m ++ rest)) last refl second.1 in
    let fourth = passed (class m == 8 && (number (text m 70) == 1 || number (text m 70) == 2 || number (text m 70) == 301), Reply 0) (key_lines m ++ rest) last refl third.1 in
    let fifth = passed (not (class m == 1 || class m == 2 || class m == 4), Reply 12) ((not (has_key m), Reply 30) ∷ rest) last refl fourth.1 in
    let sixth = passed (not (has_key m), Reply 30) rest last refl fifth.1 in
    record {
      answered = not_false (version m == 0 && is_answered (function m)) first.0;
      origin = second.0;
      served = not_false (class m == 1 || class m == 2 || class m == 4) fifth.0;
      keyed = not_false (has_key m) sixth.0;
    }

-- ---- whose key an order has

abbrev IsUnder : TxKey → Verdict → Type 0
IsUnder k v = IfOrder v (λ o. o.key ≡ k)

abbrev AreUnder : TxKey → Lines → Type 0
AreUnder k [] = Unit {0}
AreUnder k (line ∷ lines) = IsUnder k line.1 × AreUnder k lines

under_by : (k : TxKey) (t : Bool) (v w : Verdict) → IsUnder k v → IsUnder k w → IsUnder k (if t then v else w)
under_by k true v w x y = x
under_by k false v w x y = y

first_under : (k : TxKey) (lines : Lines) (last : Verdict) → AreUnder k lines → IsUnder k last → IsUnder k (first_of lines last)
first_under k [] last x y = y
first_under k (line ∷ lines) last x y = under_by k line.0 line.1 (first_of lines last) x.0 (first_under k lines last x.1 y)

-- an order of a message is under the message's key
verdict-key : (m : Contents) → IsUnder (key_of m) (verdict m)
unfolding verdict
verdict-key m =
    first_under (key_of m) (answered_lines m ++ network_lines m ++ key_lines m ++ reversal_lines m ++ completion_lines m ++ account_lines m ++ act_lines m ++ amount_lines m) (credit_verdict m)
    (tt, (tt, (tt, (tt, (tt, (tt, (tt, (tt, (tt, (tt, (refl, (tt, (tt, (tt, (tt, (tt, (tt, (refl, (tt, (tt, (refl, tt)))))))))))))))))))))
    refl

-- ---- the response

type-parts : (mti : ℕ) → mti / 1000 ≡ 0 → is_answered (mti / 10 % 10) ≡ true → mti % 10 ≤ 5
    → (response_mti mti / 1000 ≡ 0) × (response_mti mti / 100 % 10 ≡ mti / 100 % 10) × ((response_mti mti / 10 % 10 == 1 || response_mti mti / 10 % 10 == 3) ≡ true) × (response_mti mti % 10 ≤ 5) × (answered_base (response_mti mti) ≡ base_of mti)
type-parts mti version asking origin =
    let low : mti / 10 % 10 ≤ 2 = grind (arith, nat_tests) in
    let next : response_mti mti / 10 % 10 ≡ mti / 10 % 10 + 1 = omega arith in
    let odd : (mti / 10 % 10 + 1 == 1 || mti / 10 % 10 + 1 == 3) ≡ true = grind (arith, nat_tests) in
    (omega arith, omega arith, ap (λ (f : ℕ). f == 1 || f == 3) next ∙ odd, omega arith, omega arith)

small-origin : (n : ℕ) → nat_lt 5 n ≡ false → n ≤ 5
small-origin n h = grind (arith, nat_tests)

module _ (m : Contents) (a : Outcome) (h : is_order (verdict m) ≡ true) (few : a.code ≤ 99) where
  abbrev r : Contents
  r = response m a

  facts : Ordered m
  facts = ordered m h

  mti-is : r.mti ≡ response_mti m.mti
  unfolding response
  mti-is = refl

  text-is : (n : ℕ) → 2 ≤ n → n ≤ 128 → text r n ≡ unwrap_or (element m a n) []
  text-is n low high = ap (λ (v : Option (List ℕ)). unwrap_or v []) (response-each m a n low high)

  sent-text : text r 7 ≡ text m 7
  sent-text = text-is 7 (omega arith) (omega arith)

  stan-text : text r 11 ≡ text m 11
  stan-text = text-is 11 (omega arith) (omega arith)

  acquirer-text : text r 32 ≡ text m 32
  acquirer-text = text-is 32 (omega arith) (omega arith)

  code-text : text r 39 ≡ decimal 2 a.code
  code-text = text-is 39 (omega arith) (omega arith)

  type-is : (is_answer r ≡ true) × (answered_base r.mti ≡ base_of m.mti)
  type-is =
      let asked = and_parts (version m == 0) (is_answered (function m)) facts.answered in
      let parts = type-parts m.mti (eqb-true (version m) 0 asked.0) asked.1 (small-origin (origin m) facts.origin) in
      let class-same : (response_mti m.mti / 100 % 10 == 1 || response_mti m.mti / 100 % 10 == 2 || response_mti m.mti / 100 % 10 == 4) ≡ true = ap (λ (c : ℕ). c == 1 || c == 2 || c == 4) parts.1 ∙ facts.served in
      let whole = and_from _ _ (and_from _ _ (and_from _ _ (eq-eqb (response_mti m.mti / 1000) 0 parts.0) class-same) parts.2) (le-leb (response_mti m.mti % 10) 5 parts.3) in
      (ap (λ (n : ℕ). n / 1000 == 0 && (n / 100 % 10 == 1 || n / 100 % 10 == 2 || n / 100 % 10 == 4) && (n / 10 % 10 == 1 || n / 10 % 10 == 3) && nat_le (n % 10) 5) mti-is ∙ whole, ap answered_base mti-is ∙ parts.4)

  key-there : has_key r ≡ true
  key-there = rw (sent-text, stan-text, acquirer-text) facts.keyed

  tells : DecimalLaws → told_of r ≡ Some (record { key = key_of m; code = a.code })
  tells decimals =
      let digits : are_digits 2 2 (text r 39) ≡ true = ap (are_digits 2 2) code-text ∙ decimals.text 2 a.code in
      let code-is : number (text r 39) ≡ a.code = ap number code-text ∙ decimals.number 2 a.code (omega (arith, few)) in
      let key-is : answered_key r ≡ key_of m = rw (sent-text, stan-text, acquirer-text) (ap (λ (b : ℕ). record (key_of m) { base = b }) type-is.1) in
      rw (type-is.0, key-there, digits, code-is, key-is) refl

pub responses_tell_lem : DecimalLaws → ResponsesTell
responses_tell_lem decimals m a o is few =
    let ordering : is_order (verdict m) ≡ true = ap is_order is in
    let key : o.key ≡ key_of m = subst (IsUnder (key_of m)) is (verdict-key m) in
    tells m a ordering few decimals ∙ ap (λ (k : TxKey). Some (record { key = k; code = a.code })) (sym key)

-- ---- the key that is told

-- the message type of a request or advice that is answered
told-type : (mti : ℕ) → mti / 1000 ≡ 0 → (mti / 10 % 10 == 1 || mti / 10 % 10 == 3) ≡ true → mti % 10 ≤ 5
    → (answered_base mti < 1000) × (is_answered (answered_base mti / 10 % 10) ≡ true) × ((answered_base mti % 10 == 0 || answered_base mti % 10 == 2 || answered_base mti % 10 == 4) ≡ true)
told-type mti version answering origin =
    let low : 1 ≤ mti / 10 % 10 = grind (arith, nat_tests) in
    let before : answered_base mti / 10 % 10 ≡ mti / 10 % 10 - 1 = omega arith in
    let asking : (mti / 10 % 10 - 1 == 0 || mti / 10 % 10 - 1 == 2) ≡ true = grind (arith, nat_tests) in
    (omega arith, ap is_answered before ∙ asking, even_digit (answered_base mti % 10) (omega arith) (omega arith))

answer-parts : (m : Contents) → is_answer m ≡ true → (version m ≡ 0) × ((function m == 1 || function m == 3) ≡ true) × (origin m ≤ 5)
answer-parts m h =
    let whole = and_parts (version m == 0 && (class m == 1 || class m == 2 || class m == 4) && (function m == 1 || function m == 3)) (nat_le (origin m) 5) h in
    let front = and_parts (version m == 0 && (class m == 1 || class m == 2 || class m == 4)) (function m == 1 || function m == 3) whole.0 in
    let first = and_parts (version m == 0) (class m == 1 || class m == 2 || class m == 4) front.0 in
    (eqb-true (version m) 0 first.0, front.1, leb-true (origin m) 5 whole.1)

-- a message that asks can have the key that is told
pub told-valid : (m : Contents) (k : TxKey) → is_answer m ≡ true → k.base ≡ answered_base m.mti → k.stan ≤ 999999 → k.sent ≤ 9999999999 → k.acquirer ≤ 99999999999 → is_valid_key k ≡ true
told-valid m k h base stan sent acquirer =
    let parts = answer-parts m h in
    let type = told-type m.mti parts.0 parts.1 parts.2 in
    key-valid k (rw base type.0) (ap (λ (b : ℕ). is_answered (b / 10 % 10)) base ∙ type.1) (ap (λ (b : ℕ). b % 10 == 0 || b % 10 == 2 || b % 10 == 4) base ∙ type.2) stan sent acquirer
