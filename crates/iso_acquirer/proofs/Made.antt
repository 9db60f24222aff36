-- The orders that an acquirer makes are valid.
use Rattle.std.proofs.Common.{◌≡◌, ℕ, Bool, true, refl, arith, ap, sym, ◌∙◌, subst, ◌≤◌, cond, ◌/◌, ◌%◌}
use Rattle.std.specs.Prelude.{◌&&◌, ◌||◌, ◌==◌, Option, Some, None, IsSome, nat_le, if◌then◌else◌}
use Rattle.std.proofs.lemmas.Bool.Decides.{nat_tests}
use Rattle.std.proofs.lemmas.Grind.{common_steps}
use Rattle.std.proofs.lemmas.Bool.{and_from, and_parts, eq-eqb}
use Rattle.iso_order.specs.declared.key.TxKey.{TxKey}
use Rattle.iso_order.specs.declared.act.Act.TheVariants.{Debit, Undo}
use Rattle.iso_order.specs.declared.act.Money.{Money}
use Rattle.iso_order.specs.Pan.{is_pan}
use Rattle.iso_order.specs.Key.{class_digit, is_valid_key}
use Rattle.iso_order.specs.Order.{Instruction, is_account, is_currency, has_amount, is_payment, is_valid, is_valid_act}
use Rattle.iso_acquirer.specs.Acquirer.{IsFair, reversal_under}

-- a test that holds gives what it asks for
pub is_some_if : {A : Type 0} (b : Bool) (x : A) (r : Option A) → b ≡ true → r ≡ (if b then Some x else None) → IsSome r
is_some_if b x r h is = subst IsSome (sym (is ∙ ap (λ t. cond t (Some x) None) h)) refl

pub value_if : {A : Type 0} (b : Bool) (x y : A) (r : Option A) → b ≡ true → r ≡ (if b then Some x else None) → r ≡ Some y → y ≡ x
value_if b x y r h is gives = same (sym gives ∙ is ∙ ap (λ t. cond t (Some x) None) h)
  where
    same : {A : Type 0} {x y : A} → Some y ≡ Some x → y ≡ x
    same h = cc

-- a key of message type 0200 is of class 2
pub class_two : (k : TxKey) → k.base ≡ 200 → class_digit k ≡ 2
class_two k h = ap (λ b. b / 100 % 10) h

payment_of : (k : TxKey) → k.base ≡ 200 → is_payment k ≡ true
payment_of k h = ap (λ b. (b / 100 % 10 == 1) || (b / 100 % 10 == 2)) h

-- ---- debits

at_most : (a b : ℕ) → a ≤ b → nat_le a b ≡ true
at_most a b h = grind (arith, nat_tests)

pub debit-valid : (key : TxKey) (m : Money) → is_valid_key key ≡ true → key.base ≡ 200 → IsFair m.amount m.currency key.sent → is_pan m.pan ≡ true → is_valid (record { key = key; act = Debit m }) ≡ true
unfolding is_valid
debit-valid key m valid base fair pan =
    and_from (is_valid_key key) (is_payment key && has_amount m) valid
    (and_from (is_payment key) (has_amount m) (payment_of key base)
    (and_from (is_account m && nat_le 1 m.amount) (nat_le m.amount 999999999999)
    (and_from (is_account m) (nat_le 1 m.amount) (and_from (is_pan m.pan) (is_currency m.currency) pan fair.currency_fits) (at_most 1 m.amount fair.least))
    (at_most m.amount 999999999999 fair.most)))

pub debit-made : (key : TxKey) (m : Money) → is_valid_key key ≡ true → key.base ≡ 200 → IsFair m.amount m.currency key.sent → is_pan m.pan ≡ true →
    (r : Option Instruction) → r ≡ (if is_valid (record { key = key; act = Debit m }) then Some (record { key = key; act = Debit m }) else None) → IsSome r
debit-made key m valid base fair pan r is =
    is_some_if (is_valid (record { key = key; act = Debit m })) (record { key = key; act = Debit m }) r (debit-valid key m valid base fair pan) is

-- ---- reversals

key-valid : (o : Instruction) → is_valid o ≡ true → is_valid_key o.key ≡ true
unfolding is_valid
key-valid o h = (and_parts (is_valid_key o.key) (is_valid_act o.key o.act) h).0

undo_key : (k : TxKey) (stan : ℕ) → is_valid_key k ≡ true → stan ≤ 999999 → is_valid_key (record { base = 420; stan = stan; sent = k.sent; acquirer = k.acquirer }) ≡ true
undo_key k stan h few = grind (arith, nat_tests)

-- the reversal of a transaction can be made
pub reversal-fits : (o : Instruction) (stan : ℕ) → is_valid o ≡ true → o.key.base ≡ 200 → stan ≤ 999999 → is_valid (reversal_under stan o) ≡ true
unfolding is_valid
reversal-fits o stan valid base few =
    let key : TxKey = record { base = 420; stan = stan; sent = o.key.sent; acquirer = o.key.acquirer } in
    let original : is_valid_key o.key ≡ true = key-valid o valid in
    and_from (is_valid_key key) _ (undo_key o.key stan original few)
    (and_from (is_valid_key o.key && is_payment o.key && (o.key.acquirer == o.key.acquirer)) (nat_le 0 999999999999)
    (and_from (is_valid_key o.key && is_payment o.key) (o.key.acquirer == o.key.acquirer)
    (and_from (is_valid_key o.key) (is_payment o.key) original (payment_of o.key base)) (eq-eqb o.key.acquirer o.key.acquirer refl))
    refl)

-- a valid reversal names a key of its own acquirer
undo_by : (key k : TxKey) (left : ℕ) → is_valid_act key (Undo k left) ≡ true → k.acquirer ≡ key.acquirer
undo_by key k left h =
    let e = and_parts (class_digit key == 4 && is_valid_key k && is_payment k && (k.acquirer == key.acquirer)) (nat_le left 999999999999) h in
    let f = and_parts (class_digit key == 4 && is_valid_key k && is_payment k) (k.acquirer == key.acquirer) e.0 in
    grind (arith, common_steps, f.1)

pub undo-acquirer : (o : Instruction) (k : TxKey) (left : ℕ) → is_valid o ≡ true → o.act ≡ Undo k left → k.acquirer ≡ o.key.acquirer
unfolding is_valid
undo-acquirer o k left h act =
    undo_by o.key k left (subst (λ a. is_valid_act o.key a ≡ true) act (and_parts (is_valid_key o.key) (is_valid_act o.key o.act) h).1)
