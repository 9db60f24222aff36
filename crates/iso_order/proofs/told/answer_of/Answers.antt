use Rattle.std.proofs.Common.{◌≡◌, ℕ, Bool, true, false, Option, refl, sym, ap, ◌∙◌, ◌&&◌}
use Rattle.std.specs.Prelude.{Some, None, if◌then◌else◌}
use Rattle.iso_wire.specs.Contents.{Contents}
use Rattle.iso_wire.specs.Decimal.{are_digits, number}
use Rattle.iso_order.specs.declared.key.TxKey.{TxKey}
use Rattle.iso_order.specs.declared.told.Told.{Told}
use Rattle.iso_order.specs.Fields.{text, has_key, key_of}
use Rattle.iso_order.specs.Told.{is_answer, answered_base, answered_key}
use Rattle.iso_order.proofs.Table.{some_if, none_if}
use Rattle.iso_order.proofs.Telling.{told-valid}
use Rattle.iso_order.proofs.told.answer_of.Goals as goal

-- the three tests, by the first that fails
not_told : (a b k : Bool) (t : Told) → a ≡ false → ◌≡◌ {A = Option Told} None (if a && b && k then Some t else None)
not_told a b k t h = rw h refl

no_key : (a b k : Bool) (t : Told) → a ≡ true → b ≡ false → ◌≡◌ {A = Option Told} None (if a && b && k then Some t else None)
no_key a b k t h j = rw (h, j) refl

no_code : (a b k : Bool) (t : Told) → a ≡ true → b ≡ true → k ≡ false → ◌≡◌ {A = Option Told} None (if a && b && k then Some t else None)
no_code a b k t h j i = rw (h, j, i) refl

all_told : (a b k : Bool) (t u : Told) → a ≡ true → b ≡ true → k ≡ true → u ≡ t → ◌≡◌ {A = Option Told} (Some u) (if a && b && k then Some t else None)
all_told a b k t u h j i same = rw (h, j, i, same) refl

told_as : (k l : TxKey) (n m : ℕ) → k ≡ l → n ≡ m → ◌≡◌ {A = Told} (record { key = k; code = n }) (record { key = l; code = m })
told_as k l n m same alike = rw (same, alike) refl

abbrev told_in : Contents → Told
told_in m = record { key = answered_key m; code = number (text m 39) }

pub returns-then-not-is_answer-clause-told : goal.returns-then-not-is_answer-clause-told
returns-then-not-is_answer-clause-told c =
    let m = c.args.message.now in
    not_told (is_answer m) (has_key m) (are_digits 2 2 (text m 39)) (told_in m) (sym c.is_answer.ensures ∙ c.if-not-is_answer.true)

pub returns-in_err-key-clause-told : goal.returns-in_err-key-clause-told
returns-in_err-key-clause-told c =
    let m = c.args.message.now in
    c.from_residual.ensures
    ∙ no_key (is_answer m) (has_key m) (are_digits 2 2 (text m 39)) (told_in m) (sym c.is_answer.ensures ∙ c.if-not-is_answer.false)
    (none_if (has_key m) (record (key_of m) { base = c.answered_base.result }) c.in_err-key.ensures.value)

pub returns-in_err-code-clause-told : goal.returns-in_err-code-clause-told
returns-in_err-code-clause-told c =
    let m = c.args.message.now in
    let key = some_if (has_key m) (record (key_of m) { base = c.answered_base.result }) c.in_ok-key.key c.in_ok-key.ensures.value in
    let code : are_digits 2 2 (text m 39) ≡ false = rw c.text.ensures at (none_if (are_digits 2 2 c.text.result.now) (number c.text.result.now) c.in_err-code.ensures.value) in
    c.from_residual-in_err-code.ensures
    ∙ no_code (is_answer m) (has_key m) (are_digits 2 2 (text m 39)) (told_in m) (sym c.is_answer.ensures ∙ c.if-not-is_answer.false) key.0 code

pub returns-clause-told : goal.returns-clause-told
returns-clause-told c =
    let m = c.args.message.now in
    let key = some_if (has_key m) (record (key_of m) { base = c.answered_base.result }) c.in_ok-key.key c.in_ok-key.ensures.value in
    let code = some_if (are_digits 2 2 c.text.result.now) (number c.text.result.now) c.in_ok-code.code c.in_ok-code.ensures.value in
    let digits : are_digits 2 2 (text m 39) ≡ true = rw c.text.ensures at code.0 in
    let base : c.answered_base.result ≡ answered_base m.mti = c.answered_base.ensures ∙ ap answered_base c.mti.ensures in
    let named : c.in_ok-key.key ≡ answered_key m = key.1 ∙ ap (λ (b : ℕ). record (key_of m) { base = b }) base in
    all_told (is_answer m) (has_key m) (are_digits 2 2 (text m 39)) (told_in m) (record { key = c.in_ok-key.key; code = c.in_ok-code.code })
    (sym c.is_answer.ensures ∙ c.if-not-is_answer.false) key.0 digits (told_as c.in_ok-key.key (answered_key m) c.in_ok-code.code (number (text m 39)) named (code.1 ∙ ap number c.text.ensures))

pub returns-clause-valid : goal.returns-clause-valid
returns-clause-valid c =
    let m = c.args.message.now in
    let key = c.in_ok-key.ensures in
    let told = some_if (has_key m) (record (key_of m) { base = c.answered_base.result }) c.in_ok-key.key key.value in
    let answer : is_answer m ≡ true = sym c.is_answer.ensures ∙ c.if-not-is_answer.false in
    let base = ap (λ (k : TxKey). k.base) told.1 ∙ c.answered_base.ensures ∙ ap answered_base c.mti.ensures in
    told-valid m c.in_ok-key.key answer base key.stan key.sent key.acquirer
