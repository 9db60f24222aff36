use Rattle.std.proofs.Common.{inl, inr, ◌≡◌, ◌≢◌, ℕ, true, false, refl, sym, subst, ◌∙◌, ◌++◌}
use Rattle.std.specs.Prelude.{◌==◌, ◌||◌, ◌⊎◌}
use Rattle.iso_order.specs.Fields.{class, has_key, key_of}
use Rattle.iso_order.specs.Verdict.{reversal_lines, completion_lines, account_lines, act_lines, amount_lines, credit_verdict}
use Rattle.iso_order.proofs.Table.{with_key, without_key, not_reversal, some_if, none_if, is_served, is_other}
use Rattle.iso_order.proofs.verdict.key_verdict.Goals as goal

-- the classes of payments are those that are served, but for 4
of_payment : (n : ℕ) → (n ≡ 1) ⊎ (n ≡ 2) ⊎ (n ≡ 4) → n ≢ 4 → (n == 1 || n == 2) ≡ true
of_payment n (inl one) other = rw one refl
of_payment n (inr (inl two)) other = rw two refl
of_payment n (inr (inr four)) other = absurd (other four)

pub returns-then-digit-eq4-clause-verdict : goal.returns-then-digit-eq4-clause-verdict
returns-then-digit-eq4-clause-verdict c =
    let m = c.args.message.now in
    let served : (class m == 1 || class m == 2 || class m == 4) ≡ true = rw c.requires.class at (is_served c.args.digit c.requires.served) in
    let keyed = some_if (has_key m) (key_of m) c.in-Some.key c.in-Some.ensures.value in
    c.reversal_verdict.ensures.verdict (completion_lines m ++ account_lines m ++ act_lines m ++ amount_lines m) (credit_verdict m)
    ∙ sym (with_key m (reversal_lines m ++ completion_lines m ++ account_lines m ++ act_lines m ++ amount_lines m) (credit_verdict m) served keyed.0)

pub returns-else-digit-eq4-clause-verdict : goal.returns-else-digit-eq4-clause-verdict
returns-else-digit-eq4-clause-verdict c =
    let m = c.args.message.now in
    let served : (class m == 1 || class m == 2 || class m == 4) ≡ true = rw c.requires.class at (is_served c.args.digit c.requires.served) in
    let keyed = some_if (has_key m) (key_of m) c.in-Some.key c.in-Some.ensures.value in
    let payment : (class m == 4) ≡ false = rw c.requires.class at (is_other c.args.digit 4 c.if-digit-eq4.false) in
    c.payment_verdict.ensures.verdict
    ∙ sym (not_reversal m (completion_lines m ++ account_lines m ++ act_lines m ++ amount_lines m) (credit_verdict m) payment)
    ∙ sym (with_key m (reversal_lines m ++ completion_lines m ++ account_lines m ++ act_lines m ++ amount_lines m) (credit_verdict m) served keyed.0)

pub returns-in_default-clause-verdict : goal.returns-in_default-clause-verdict
returns-in_default-clause-verdict c =
    let m = c.args.message.now in
    let served : (class m == 1 || class m == 2 || class m == 4) ≡ true = rw c.requires.class at (is_served c.args.digit c.requires.served) in
    sym (without_key m (reversal_lines m ++ completion_lines m ++ account_lines m ++ act_lines m ++ amount_lines m) (credit_verdict m) served (none_if (has_key m) (key_of m) c.in_default.ensures.value))

pub returns-then-digit-eq4-clause-valid : goal.returns-then-digit-eq4-clause-valid
returns-then-digit-eq4-clause-valid c = c.reversal_verdict.ensures.valid

pub returns-then-digit-eq4-clause-key : goal.returns-then-digit-eq4-clause-key
returns-then-digit-eq4-clause-key c = c.reversal_verdict.ensures.key

pub returns-else-digit-eq4-clause-valid : goal.returns-else-digit-eq4-clause-valid
returns-else-digit-eq4-clause-valid c = c.payment_verdict.ensures.valid

pub returns-else-digit-eq4-clause-key : goal.returns-else-digit-eq4-clause-key
returns-else-digit-eq4-clause-key c = c.payment_verdict.ensures.key

pub payment_verdict-requires-clause-key : goal.payment_verdict-requires-clause-key
payment_verdict-requires-clause-key c = (some_if (has_key c.args.message.now) (key_of c.args.message.now) c.in-Some.key c.in-Some.ensures.value).1

pub payment_verdict-requires-clause-payment : goal.payment_verdict-requires-clause-payment
payment_verdict-requires-clause-payment c =
    subst (λ (n : ℕ). (n == 1 || n == 2) ≡ true) (sym (c.in-Some.ensures.class ∙ sym c.requires.class)) (of_payment c.args.digit c.requires.served c.if-digit-eq4.false)

pub payment_verdict-requires-clause-class : goal.payment_verdict-requires-clause-class
payment_verdict-requires-clause-class c = c.in-Some.ensures.class

pub payment_verdict-requires-clause-function : goal.payment_verdict-requires-clause-function
payment_verdict-requires-clause-function c = c.in-Some.ensures.function

pub reversal_verdict-requires-clause-class : goal.reversal_verdict-requires-clause-class
reversal_verdict-requires-clause-class c = sym c.requires.class ∙ c.if-digit-eq4.true

pub reversal_verdict-requires-clause-key : goal.reversal_verdict-requires-clause-key
reversal_verdict-requires-clause-key c = (some_if (has_key c.args.message.now) (key_of c.args.message.now) c.in-Some.key c.in-Some.ensures.value).1

pub reversal_verdict-requires-clause-key_class : goal.reversal_verdict-requires-clause-key_class
reversal_verdict-requires-clause-key_class c = c.in-Some.ensures.class ∙ sym c.requires.class ∙ c.if-digit-eq4.true
