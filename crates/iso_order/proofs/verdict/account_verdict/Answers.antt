use Rattle.std.proofs.Common.{◌≡◌, ℕ, true, false, Bool, List, length, Option, refl, sym, ap, ◌∙◌, ◌++◌, ◌&&◌}
use Rattle.std.specs.Prelude.{Some, None, option_map, is_some, ◌==◌, if◌then◌else◌}
use Rattle.std.proofs.lemmas.Bool.{and_parts, eqb-true}
use Rattle.iso_wire.specs.Contents.{Contents}
use Rattle.iso_wire.specs.Elements.{has}
use Rattle.iso_order.specs.declared.act.Money.{Money}
use Rattle.iso_order.specs.declared.key.TxKey.{TxKey}
use Rattle.iso_order.specs.declared.verdict.Verdict.{Verdict}
use Rattle.iso_order.specs.declared.verdict.Verdict.TheVariants.{Reply}
use Rattle.iso_order.specs.Fields.{class, function, text, is_completion, original_of, hold_of, number_from}
use Rattle.iso_order.specs.Key.{class_digit, function_digit}
use Rattle.iso_order.specs.Order.{is_currency}
use Rattle.iso_order.specs.Pan.{AccountNumber}
use Rattle.iso_wire.specs.Decimal.{are_digits, number}
use Rattle.iso_order.specs.Verdict.{first_of, account_lines, act_lines, amount_lines, credit_verdict}
use Rattle.iso_order.proofs.Table.{with_account, some_if, none_if, read_digits}
use Rattle.iso_order.proofs.verdict.account_verdict.Goals as goal

-- the first of the three that is missing
no_account : (m : Contents) (lines : List (Bool × Verdict)) (last : Verdict) → are_digits 1 19 (text m 2) ≡ false → first_of (account_lines m ++ lines) last ≡ Reply 30
no_account m lines last a = rw a refl

no_code : (m : Contents) (lines : List (Bool × Verdict)) (last : Verdict) → are_digits 1 19 (text m 2) ≡ true → are_digits 6 6 (text m 3) ≡ false → first_of (account_lines m ++ lines) last ≡ Reply 30
no_code m lines last a p = rw (a, p) refl

no_currency : (m : Contents) (lines : List (Bool × Verdict)) (last : Verdict) → are_digits 1 19 (text m 2) ≡ true → are_digits 6 6 (text m 3) ≡ true → is_currency (text m 49) ≡ false
    → first_of (account_lines m ++ lines) last ≡ Reply 30
no_currency m lines last a p k = rw (a, p, k) refl

unread_by : (t : Bool) (n len : ℕ) → ◌≡◌ {A = Option AccountNumber} None (option_map (λ (d : ℕ). record { digits = d; len = len }) (if t then Some n else None)) → t ≡ false
unread_by true n len h = absurd cc
unread_by false n len h = refl

read_as : (t : Bool) (n len : ℕ) (p : AccountNumber) → Some p ≡ option_map (λ (d : ℕ). record { digits = d; len = len }) (if t then Some n else None) → p ≡ record { digits = n; len = len }
read_as true n len p h = cc
read_as false n len p h = absurd cc

-- the money of an account and a currency
money_as : (p q : AccountNumber) (a b : List ℕ) → p ≡ q → a ≡ b → ◌≡◌ {A = Money} (record { pan = p; amount = 0; currency = a }) (record { pan = q; amount = 0; currency = b })
money_as p q a b same alike = rw (same, alike) refl

-- a hold that is there was named by an advice of class 2
named_by : (t : Bool) (x : TxKey) (hold : Option TxKey) → hold ≡ (if t then Some x else None) → is_some hold ≡ true → t ≡ true
named_by true x hold e some = refl
named_by false x hold e some =
    let no : false ≡ true = sym (ap (λ (o : Option TxKey). is_some o) e) ∙ some in
    absurd cc

advised : (m : Contents) (k : TxKey) (hold : Option TxKey) → hold ≡ hold_of m → class_digit k ≡ class m → function_digit k ≡ function m → is_some hold ≡ true → (class_digit k ≡ 2) × (function_digit k ≡ 2)
advised m k hold e two advice some =
    let both = and_parts (class m == 2 && function m == 2) (has m.elements 90) (named_by (is_completion m) (original_of m) hold e some) in
    let parts = and_parts (class m == 2) (function m == 2) both.0 in
    (two ∙ eqb-true (class m) 2 parts.0, advice ∙ eqb-true (function m) 2 parts.1)

pub returns-clause-verdict : goal.returns-clause-verdict
returns-clause-verdict c =
    let m = c.args.message.now in
    let pan : are_digits 1 19 (text m 2) ≡ true = rw c.text.ensures at (read_digits c.text.result.now c.in-Some.pan c.in-Some.ensures) in
    let code : are_digits 6 6 (text m 3) ≡ true = rw c.text-2.ensures at (some_if (are_digits 6 6 c.text-2.result.now) _ _ c.in-Some-kind_of.ensures.value).0 in
    let currency : is_currency (text m 49) ≡ true = rw c.text-3.ensures at (some_if (is_currency c.text-3.result.now) _ _ c.in-Some-currency_of.ensures).0 in
    c.act_verdict.ensures.verdict
    ∙ sym (with_account m (act_lines m ++ amount_lines m) (credit_verdict m) pan code currency)

pub returns-clause-valid : goal.returns-clause-valid
returns-clause-valid c = c.act_verdict.ensures.valid

pub returns-clause-key : goal.returns-clause-key
returns-clause-key c = c.act_verdict.ensures.key

pub returns-in_default-clause-verdict : goal.returns-in_default-clause-verdict
returns-in_default-clause-verdict c =
    let m = c.args.message.now in
    let pan : are_digits 1 19 (text m 2) ≡ false = rw c.text.ensures at (unread_by (are_digits 1 19 c.text.result.now) (number c.text.result.now) (length c.text.result.now) c.in_default.ensures) in
    sym (no_account m (act_lines m ++ amount_lines m) (credit_verdict m) pan)

pub returns-in_default-kind_of-clause-verdict : goal.returns-in_default-kind_of-clause-verdict
returns-in_default-kind_of-clause-verdict c =
    let m = c.args.message.now in
    let pan : are_digits 1 19 (text m 2) ≡ true = rw c.text.ensures at (read_digits c.text.result.now c.in-Some.pan c.in-Some.ensures) in
    let code : are_digits 6 6 (text m 3) ≡ false = rw c.text-2.ensures at (none_if (are_digits 6 6 c.text-2.result.now) (number_from 0 2 c.text-2.result.now) c.in_default-kind_of.ensures.value) in
    sym (no_code m (act_lines m ++ amount_lines m) (credit_verdict m) pan code)

pub returns-in_default-currency_of-clause-verdict : goal.returns-in_default-currency_of-clause-verdict
returns-in_default-currency_of-clause-verdict c =
    let m = c.args.message.now in
    let pan : are_digits 1 19 (text m 2) ≡ true = rw c.text.ensures at (read_digits c.text.result.now c.in-Some.pan c.in-Some.ensures) in
    let code : are_digits 6 6 (text m 3) ≡ true = rw c.text-2.ensures at (some_if (are_digits 6 6 c.text-2.result.now) _ _ c.in-Some-kind_of.ensures.value).0 in
    let currency : is_currency (text m 49) ≡ false = rw c.text-3.ensures at (none_if (is_currency c.text-3.result.now) c.text-3.result.now c.in_default-currency_of.ensures) in
    sym (no_currency m (act_lines m ++ amount_lines m) (credit_verdict m) pan code currency)

pub act_verdict-requires-clause-code : goal.act_verdict-requires-clause-code
act_verdict-requires-clause-code c =
    (some_if (are_digits 6 6 c.text-2.result.now) (number_from 0 2 c.text-2.result.now) c.in-Some-kind_of.code c.in-Some-kind_of.ensures.value).1 ∙ ap (number_from 0 2) c.text-2.ensures

pub act_verdict-requires-clause-money : goal.act_verdict-requires-clause-money
act_verdict-requires-clause-money c =
    let m = c.args.message.now in
    let pan = read_as (are_digits 1 19 c.text.result.now) (number c.text.result.now) (length c.text.result.now) c.in-Some.pan c.in-Some.ensures in
    let account = rw c.text.ensures at pan in
    let currency = (some_if (is_currency c.text-3.result.now) c.text-3.result.now c.in-Some-currency_of.currency c.in-Some-currency_of.ensures).1 ∙ c.text-3.ensures in
    c.account-money.ensures.money ∙ money_as c.in-Some.pan (record { digits = number (text m 2); len = length (text m 2) }) c.in-Some-currency_of.currency (text m 49) account currency

pub act_verdict-requires-clause-account : goal.act_verdict-requires-clause-account
act_verdict-requires-clause-account c = c.account-money.ensures.account

pub act_verdict-requires-clause-advice : goal.act_verdict-requires-clause-advice
act_verdict-requires-clause-advice c = advised c.args.message.now c.args.key.now c.args.hold c.requires.hold c.requires.class c.requires.function
