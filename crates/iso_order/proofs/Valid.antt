-- What a valid order keeps.
use Rattle.std.proofs.Common.{◌≡◌, ◌≢◌, ℕ, ◌/◌, ◌%◌, ◌^◌, ◌<◌, ◌≤◌, Bool, true, refl, arith, eq-eqb, le-leb, ◌&&◌}
use Rattle.std.proofs.lemmas.Bool.{and_parts, eqb-true, leb-true}
use Rattle.std.proofs.lemmas.Bool.Decides.{nat_tests}
use Rattle.iso_order.specs.declared.key.TxKey.{TxKey}
use Rattle.iso_order.specs.declared.act.Act.{Act}
use Rattle.iso_order.specs.declared.act.Act.TheVariants.{Debit, Credit, Inquiry, Undo, Complete}
use Rattle.iso_order.specs.declared.act.Money.{Money}
use Rattle.std.specs.Prelude.{IsTrue, IfSome, is_some, Option, Some, None, ◌==◌, ◌||◌, nat_le, nat_lt}
use Rattle.iso_order.specs.Fields.{base_of, is_hold, is_original}
use Rattle.iso_parts.specs.Mti.{is_answered}
use Rattle.iso_order.specs.Key.{class_digit, function_digit, is_valid_key}
use Rattle.iso_order.specs.Verdict.{debited_by}
use Rattle.iso_order.specs.Order.{Instruction, is_account, has_amount, is_payment, is_hold_for, is_valid_act, is_valid, amount_of}

moved-bound : (m : Money) → has_amount m ≡ true → m.amount < 1000000000000
moved-bound m h = let most = (and_parts (is_account m && nat_le 1 m.amount) (nat_le m.amount 999999999999) h).1 in grind (arith, nat_tests)

-- the amount of a valid order has at most twelve digits
pub amount-bound : (key : TxKey) (act : Act) → is_valid_act key act ≡ true → amount_of act < 1000000000000
amount-bound key (Debit m) h = moved-bound m (and_parts (is_payment key) (has_amount m) h).1
amount-bound key (Credit m) h = moved-bound m (and_parts (class_digit key == 2) (has_amount m) h).1
amount-bound key (Inquiry m) h = let zero_amount = (and_parts (is_payment key && function_digit key == 0) (m.amount == 0) (and_parts (is_payment key && function_digit key == 0 && m.amount == 0) (is_account m) h).0).1 in grind (arith, nat_tests)
amount-bound key (Undo k left) h =
    let most = (and_parts (class_digit key == 4 && is_valid_key k && is_payment k && k.acquirer == key.acquirer) (nat_le left 999999999999) h).1 in
    grind (arith, nat_tests)
amount-bound key (Complete m hold) h =
    let money = and_parts (class_digit key == 2 && function_digit key == 2 && has_amount m) (is_hold_for key hold) h in
    moved-bound m (and_parts (class_digit key == 2 && function_digit key == 2) (has_amount m) money.0).1

-- the amount of an order has at most twelve digits
pub valid-bound : (o : Instruction) → IsTrue (is_valid o) → amount_of o.act < 1000000000000
unfolding is_valid
valid-bound o h =
    amount-bound o.key o.act (and_parts (is_valid_key o.key) (is_valid_act o.key o.act) h).1

-- ---- keys

-- what a message type without a repeat keeps of the one that it comes from
pub record Base (mti base : ℕ) : Type 0 where
  pub below : base < 1000
  pub class : base / 100 % 10 ≡ mti / 100 % 10
  pub function : base / 10 % 10 ≡ mti / 10 % 10
  pub origin : (base % 10 == 0 || base % 10 == 2 || base % 10 == 4) ≡ true

pub even_digit : (o : ℕ) → o ≤ 4 → o % 2 ≡ 0 → (o == 0 || o == 2 || o == 4) ≡ true
even_digit o le even = grind (arith, nat_tests)

pub base-keeps : (mti : ℕ) → mti / 1000 ≡ 0 → mti % 10 ≤ 5 → Base mti (base_of mti)
base-keeps mti version origin =
    record {
      below = omega arith;
      class = omega arith;
      function = omega arith;
      origin = even_digit (base_of mti % 10) (omega arith) (omega arith);
    }

pub key-valid : (k : TxKey) → k.base < 1000 → is_answered (function_digit k) ≡ true → (k.base % 10 == 0 || k.base % 10 == 2 || k.base % 10 == 4) ≡ true → k.stan ≤ 999999 → k.sent ≤ 9999999999 → k.acquirer ≤ 99999999999 → is_valid_key k ≡ true
key-valid k base function origin stan sent acquirer = grind (arith, nat_tests)

pub key-acquirer : (k : TxKey) → is_valid_key k ≡ true → k.acquirer ≤ 99999999999
key-acquirer k h = grind (arith, nat_tests)

pub key-request : (k : TxKey) → is_valid_key k ≡ true → function_digit k ≢ 2 → (function_digit k == 0) ≡ true
key-request k h request = grind (arith, nat_tests)

-- ---- orders

original_parts : (mti : ℕ) → is_original mti ≡ true → (mti / 1000 ≡ 0) × ((mti / 100 % 10 == 1 || mti / 100 % 10 == 2) ≡ true) × (is_answered (mti / 10 % 10) ≡ true) × (mti % 10 ≤ 5)
original_parts mti h =
    let origin = and_parts (mti / 1000 == 0 && (mti / 100 % 10 == 1 || mti / 100 % 10 == 2) && is_answered (mti / 10 % 10)) (nat_le (mti % 10) 5) h in
    let function = and_parts (mti / 1000 == 0 && (mti / 100 % 10 == 1 || mti / 100 % 10 == 2)) (is_answered (mti / 10 % 10)) origin.0 in
    let class = and_parts (mti / 1000 == 0) (mti / 100 % 10 == 1 || mti / 100 % 10 == 2) function.0 in
    (eqb-true (mti / 1000) 0 class.0, class.1, function.1, leb-true (mti % 10) 5 origin.1)

pub both_true : (p q : Bool) → p ≡ true → q ≡ true → (p && q) ≡ true
both_true p q h k = rw h k

hold_parts : (mti : ℕ) → is_hold mti ≡ true → (mti / 1000 ≡ 0) × ((mti / 100 % 10 == 1) ≡ true) × (is_answered (mti / 10 % 10) ≡ true) × (mti % 10 ≤ 5)
hold_parts mti h =
    let hold = and_parts (is_original mti) (mti / 100 % 10 == 1) h in
    let parts = original_parts mti hold.0 in
    (parts.0, hold.1, parts.2, parts.3)

-- a key that a message names under its own acquirer
module _ (key named : TxKey) (mti : ℕ) (valid : is_valid_key key ≡ true) (base : named.base ≡ base_of mti) (acquirer : named.acquirer ≡ key.acquirer) (stan : named.stan ≤ 999999) (sent : named.sent ≤ 9999999999) where
  named-valid : Base mti (base_of mti) → is_answered (mti / 10 % 10) ≡ true → is_valid_key named ≡ true
  named-valid kept asking =
      key-valid named (rw base kept.below) (rw (base, kept.function) asking) (rw base kept.origin) stan sent (rw acquirer (key-acquirer key valid))

  own : (named.acquirer == key.acquirer) ≡ true
  own = eq-eqb named.acquirer key.acquirer acquirer

  pub undo-valid : (left : ℕ) → is_original mti ≡ true → left ≤ 999999999999 → class_digit key ≡ 4 → IsTrue (is_valid (record { key = key; act = Undo named left }))
  unfolding is_valid
  undo-valid left original small class =
      let parts = original_parts mti original in
      let kept = base-keeps mti parts.0 parts.3 in
      let good = named-valid kept parts.2 in
      let payment : is_payment named ≡ true = rw (base, kept.class) parts.1 in
      let four : (class_digit key == 4) ≡ true = eq-eqb (class_digit key) 4 class in
      both_true (is_valid_key key) _ valid
      (both_true (class_digit key == 4 && is_valid_key named && is_payment named && named.acquirer == key.acquirer) (nat_le left 999999999999)
      (both_true (class_digit key == 4 && is_valid_key named && is_payment named) (named.acquirer == key.acquirer)
      (both_true (class_digit key == 4 && is_valid_key named) (is_payment named) (both_true (class_digit key == 4) (is_valid_key named) four good) payment) own) (le-leb left 999999999999 small))

  pub hold-valid : is_hold mti ≡ true → is_hold_for key named ≡ true
  hold-valid hold =
      let parts = hold_parts mti hold in
      let kept = base-keeps mti parts.0 parts.3 in
      let good = named-valid kept parts.2 in
      let authorization : (class_digit named == 1) ≡ true = rw (base, kept.class) parts.1 in
      both_true (is_valid_key named && class_digit named == 1) (named.acquirer == key.acquirer) (both_true (is_valid_key named) (class_digit named == 1) good authorization) own

module _ (key : TxKey) (m : Money) (valid : is_valid_key key ≡ true) (account : is_account m ≡ true) where
  moved : 1 ≤ m.amount → m.amount ≤ 999999999999 → has_amount m ≡ true
  moved least most =
      both_true (is_account m && nat_le 1 m.amount) (nat_le m.amount 999999999999)
      (both_true (is_account m) (nat_le 1 m.amount) account (le-leb 1 m.amount least)) (le-leb m.amount 999999999999 most)

  pub debit-valid : is_payment key ≡ true → 1 ≤ m.amount → m.amount ≤ 999999999999 → IsTrue (is_valid (record { key = key; act = Debit m }))
  unfolding is_valid
  debit-valid payment least most =
      both_true (is_valid_key key) _ valid (both_true (is_payment key) (has_amount m) payment (moved least most))

  pub credit-valid : class_digit key ≡ 2 → 1 ≤ m.amount → m.amount ≤ 999999999999 → IsTrue (is_valid (record { key = key; act = Credit m }))
  unfolding is_valid
  credit-valid two least most =
      both_true (is_valid_key key) _ valid (both_true (class_digit key == 2) (has_amount m) (eq-eqb (class_digit key) 2 two) (moved least most))

  pub completion-valid : (hold : TxKey) → class_digit key ≡ 2 → function_digit key ≡ 2 → is_hold_for key hold ≡ true → 1 ≤ m.amount → m.amount ≤ 999999999999 → IsTrue (is_valid (record { key = key; act = Complete m hold }))
  unfolding is_valid
  completion-valid hold two advice named least most =
      both_true (is_valid_key key) _ valid
      (both_true (class_digit key == 2 && function_digit key == 2 && has_amount m) (is_hold_for key hold)
      (both_true (class_digit key == 2 && function_digit key == 2) (has_amount m)
      (both_true (class_digit key == 2) (function_digit key == 2) (eq-eqb (class_digit key) 2 two) (eq-eqb (function_digit key) 2 advice)) (moved least most)) named)

  -- a debit, or the completion of a hold of its own
  pub debited-valid : (hold : Option TxKey) → is_payment key ≡ true → (is_some hold ≡ true → (class_digit key ≡ 2) × (function_digit key ≡ 2)) → IfSome hold (λ h. is_hold_for key h ≡ true) → 1 ≤ m.amount → m.amount ≤ 999999999999 → IsTrue (is_valid (record { key = key; act = debited_by m hold }))
  debited-valid None payment advice named least most = debit-valid payment least most
  debited-valid (Some hold) payment advice named least most = let two = advice refl in completion-valid hold two.0 two.1 named least most

  pub inquiry-valid : is_payment key ≡ true → function_digit key ≢ 2 → m.amount ≡ 0 → IsTrue (is_valid (record { key = key; act = Inquiry m }))
  unfolding is_valid
  inquiry-valid payment request none =
      both_true (is_valid_key key) _ valid
      (both_true (is_payment key && function_digit key == 0 && m.amount == 0) (is_account m)
      (both_true (is_payment key && function_digit key == 0) (m.amount == 0) (both_true (is_payment key) (function_digit key == 0) payment (key-request key valid request)) (eq-eqb m.amount 0 none)) account)

-- ---- what a valid key keeps

-- what holds of the type and the numbers of a key
pub record KeyFacts (k : TxKey) : Type 0 where
  pub version : k.base / 1000 ≡ 0
  pub asking : is_answered (k.base / 10 % 10) ≡ true
  pub origin : k.base % 10 ≤ 5
  pub first : base_of k.base ≡ k.base
  pub small : k.base < 10 ^ 4
  pub stan : k.stan < 10 ^ 6
  pub sent : k.sent < 10 ^ 10
  pub acquirer : k.acquirer < 10 ^ 11

even_base : (b : ℕ) → (b % 10 == 0 || b % 10 == 2 || b % 10 == 4) ≡ true → (b % 2 ≡ 0) × (b % 10 ≤ 5)
even_base b h = (grind (arith, nat_tests), grind (arith, nat_tests))

pub key_facts : (k : TxKey) → is_valid_key k ≡ true → KeyFacts k
key_facts k h =
    let a = and_parts (nat_lt k.base 1000 && (function_digit k == 0 || function_digit k == 2) && (k.base % 10 == 0 || k.base % 10 == 2 || k.base % 10 == 4) && nat_le k.stan 999999 && nat_le k.sent 9999999999) (nat_le k.acquirer 99999999999) h in
    let b = and_parts (nat_lt k.base 1000 && (function_digit k == 0 || function_digit k == 2) && (k.base % 10 == 0 || k.base % 10 == 2 || k.base % 10 == 4) && nat_le k.stan 999999) (nat_le k.sent 9999999999) a.0 in
    let s = and_parts (nat_lt k.base 1000 && (function_digit k == 0 || function_digit k == 2) && (k.base % 10 == 0 || k.base % 10 == 2 || k.base % 10 == 4)) (nat_le k.stan 999999) b.0 in
    let o = and_parts (nat_lt k.base 1000 && (function_digit k == 0 || function_digit k == 2)) (k.base % 10 == 0 || k.base % 10 == 2 || k.base % 10 == 4) s.0 in
    let f = and_parts (nat_lt k.base 1000) (function_digit k == 0 || function_digit k == 2) o.0 in
    let low : k.base < 1000 = let lt = f.0 in grind (arith, nat_tests) in
    let even = even_base k.base o.1 in
    record {
      version = omega arith;
      asking = f.1;
      origin = even.1;
      first = omega (arith, even.0);
      small = omega arith;
      stan = omega (arith, leb-true k.stan 999999 s.1);
      sent = omega (arith, leb-true k.sent 9999999999 b.1);
      acquirer = omega (arith, leb-true k.acquirer 99999999999 a.1);
    }

-- what is moved is moved on an account
pub moved-account : (m : Money) → has_amount m ≡ true → is_account m ≡ true
moved-account m h =
    let most = and_parts (is_account m && nat_le 1 m.amount) (nat_le m.amount 999999999999) h in
    (and_parts (is_account m) (nat_le 1 m.amount) most.0).0

pub valid-parts : (o : Instruction) → is_valid o ≡ true → (is_valid_key o.key ≡ true) × (is_valid_act o.key o.act ≡ true)
unfolding is_valid
valid-parts o h = and_parts (is_valid_key o.key) (is_valid_act o.key o.act) h
