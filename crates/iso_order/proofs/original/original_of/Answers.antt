use Rattle.std.proofs.Common.{◌≡◌, ◌≢◌, ℕ, true, List, length, refl, sym, ap, ◌∙◌, ◌&&◌, arith, eq-eqb, length-take}
use Rattle.std.specs.Prelude.{◌==◌, ◌||◌, nat_le}
use Rattle.std.specs.List.{list_all}
use Rattle.std.proofs.lemmas.Bool.{and_parts}
use Rattle.iso_parts.specs.Class.{is_digit}
use Rattle.iso_wire.specs.Contents.{Contents}
use Rattle.iso_wire.specs.Decimal.{are_digits, number}
use Rattle.iso_order.specs.declared.key.TxKey.{TxKey}
use Rattle.iso_order.specs.Fields.{text, base_of, number_from, original_mti, original_stan, original_sent, original_acquirer, original_of}
use Rattle.iso_order.proofs.Digits.{list_all-take, are_digits-least}
use Rattle.iso_order.proofs.Table.{is_other}
use Rattle.iso_order.proofs.original.original_of.Goals as goal

-- no acquirer is named
own_none : (x y k : ℕ) → x ≡ y → x ≡ 0 → (x == 0) ≡ (y == 0 || y == k)
own_none x y k same none =
    let all : (y == 0 || y == k) ≡ true = rw (eq-eqb y 0 (sym same ∙ none)) refl in
    eq-eqb x 0 none ∙ sym all

own_some : (x y a k : ℕ) → x ≡ y → x ≢ 0 → a ≡ k → (x == a) ≡ (y == 0 || y == k)
own_some x y a k same some key =
    let rest : (y == 0 || y == k) ≡ (y == k) = rw (is_other y 0 (λ none. some (same ∙ none))) refl in
    ap (λ (n : ℕ). n == a) same ∙ ap (λ (n : ℕ). y == n) key ∙ sym rest

digits_of : (l : List ℕ) → are_digits 42 42 l ≡ true → list_all is_digit l ≡ true
digits_of l h = (and_parts (nat_le 42 (length l) && nat_le (length l) 42) (list_all is_digit l) h).1

-- the digits are those of the element
some_as : (m : Contents) (l : List ℕ) → l ≡ text m 90 → are_digits 42 42 l ≡ true → true ≡ are_digits 42 42 (text m 90)
some_as m l told h = sym (ap (are_digits 42 42) (sym told) ∙ h)

pub returns-then-not-are_digits-clause-some : goal.returns-then-not-are_digits-clause-some
returns-then-not-are_digits-clause-some c = sym (ap (are_digits 42 42) (sym c.text-data.ensures) ∙ sym c.are_digits.ensures ∙ c.if-not-are_digits.true)

pub returns-then-acquirer-eq0-clause-some : goal.returns-then-acquirer-eq0-clause-some
returns-then-acquirer-eq0-clause-some c = some_as c.args.message.now c.text-data.result.now c.text-data.ensures (sym c.are_digits.ensures ∙ c.if-not-are_digits.false)

pub returns-else-acquirer-eq0-clause-some : goal.returns-else-acquirer-eq0-clause-some
returns-else-acquirer-eq0-clause-some c = some_as c.args.message.now c.text-data.result.now c.text-data.ensures (sym c.are_digits.ensures ∙ c.if-not-are_digits.false)

-- a key of those parts
key_as : (m : Contents) (base stan sent acquirer : ℕ) → base ≡ base_of (original_mti m) → stan ≡ original_stan m → sent ≡ original_sent m → acquirer ≡ number (text m 32)
    → ◌≡◌ {A = TxKey} (record { base = base; stan = stan; sent = sent; acquirer = acquirer }) (original_of m)
key_as m base stan sent acquirer a b c d = rw (a, b, c, d) refl

pub returns-then-acquirer-eq0-clause-named : goal.returns-then-acquirer-eq0-clause-named
returns-then-acquirer-eq0-clause-named c =
    let m = c.args.message.now in
    let told = c.text-data.ensures in
    let mti = c.type_in-mti.ensures ∙ ap (number_from 0 4) told in
    let read = c.number_from-acquirer.ensures.value ∙ ap (number_from 20 11) told in
    record {
      mti = mti;
      key = key_as m c.base_of.result c.number_from.result c.number_from-2.result c.args.key.now.acquirer (c.base_of.ensures ∙ ap base_of mti)
          (c.number_from.ensures.value ∙ ap (number_from 4 6) told) (c.number_from-2.ensures.value ∙ ap (number_from 10 10) told) (ap (λ (k : TxKey). k.acquirer) c.requires);
      own = own_none c.number_from-acquirer.result (original_acquirer m) (number (text m 32)) read c.if-acquirer-eq0.true;
    }

pub returns-else-acquirer-eq0-clause-named : goal.returns-else-acquirer-eq0-clause-named
returns-else-acquirer-eq0-clause-named c =
    let m = c.args.message.now in
    let told = c.text-data.ensures in
    let mti = c.type_in-mti.ensures ∙ ap (number_from 0 4) told in
    let read = c.number_from-acquirer.ensures.value ∙ ap (number_from 20 11) told in
    let acquirer = ap (λ (k : TxKey). k.acquirer) c.requires in
    record {
      mti = mti;
      key = key_as m c.base_of.result c.number_from.result c.number_from-2.result c.args.key.now.acquirer (c.base_of.ensures ∙ ap base_of mti)
          (c.number_from.ensures.value ∙ ap (number_from 4 6) told) (c.number_from-2.ensures.value ∙ ap (number_from 10 10) told) acquirer;
      own = own_some c.number_from-acquirer.result (original_acquirer m) c.args.key.now.acquirer (number (text m 32)) read c.if-acquirer-eq0.false acquirer;
    }

pub number_from-requires-clause-digits : goal.number_from-requires-clause-digits
number_from-requires-clause-digits c = digits_of c.text-data.result.now (sym c.are_digits.ensures ∙ c.if-not-are_digits.false)

pub number_from-requires-clause-within : goal.number_from-requires-clause-within
number_from-requires-clause-within c = omega (arith, are_digits-least 42 42 c.text-data.result.now (sym c.are_digits.ensures ∙ c.if-not-are_digits.false))

pub number_from-requires-2-clause-digits : goal.number_from-requires-2-clause-digits
number_from-requires-2-clause-digits c = digits_of c.text-data.result.now (sym c.are_digits.ensures ∙ c.if-not-are_digits.false)

pub number_from-requires-2-clause-within : goal.number_from-requires-2-clause-within
number_from-requires-2-clause-within c = omega (arith, are_digits-least 42 42 c.text-data.result.now (sym c.are_digits.ensures ∙ c.if-not-are_digits.false))

pub number_from-acquirer-requires-clause-digits : goal.number_from-acquirer-requires-clause-digits
number_from-acquirer-requires-clause-digits c = digits_of c.text-data.result.now (sym c.are_digits.ensures ∙ c.if-not-are_digits.false)

pub number_from-acquirer-requires-clause-within : goal.number_from-acquirer-requires-clause-within
number_from-acquirer-requires-clause-within c = omega (arith, are_digits-least 42 42 c.text-data.result.now (sym c.are_digits.ensures ∙ c.if-not-are_digits.false))

pub type_in-mti-requires-clause-digits : goal.type_in-mti-requires-clause-digits
type_in-mti-requires-clause-digits c = list_all-take is_digit 4 c.text-data.result.now (digits_of c.text-data.result.now (sym c.are_digits.ensures ∙ c.if-not-are_digits.false))

pub type_in-mti-requires-clause-four : goal.type_in-mti-requires-clause-four
type_in-mti-requires-clause-four c =
    let least = are_digits-least 42 42 c.text-data.result.now (sym c.are_digits.ensures ∙ c.if-not-are_digits.false) in
    omega (arith, length-take 4 c.text-data.result.now, least)

pub returns-then-acquirer-eq0-clause-stan : goal.returns-then-acquirer-eq0-clause-stan
returns-then-acquirer-eq0-clause-stan c = omega (arith, c.number_from.ensures.below)

pub returns-then-acquirer-eq0-clause-sent : goal.returns-then-acquirer-eq0-clause-sent
returns-then-acquirer-eq0-clause-sent c = omega (arith, c.number_from-2.ensures.below)

pub returns-else-acquirer-eq0-clause-stan : goal.returns-else-acquirer-eq0-clause-stan
returns-else-acquirer-eq0-clause-stan c = omega (arith, c.number_from.ensures.below)

pub returns-else-acquirer-eq0-clause-sent : goal.returns-else-acquirer-eq0-clause-sent
returns-else-acquirer-eq0-clause-sent c = omega (arith, c.number_from-2.ensures.below)
