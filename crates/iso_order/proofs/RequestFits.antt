-- Requests are well formed, and can be written under the built-in tables.
use Rattle.std.proofs.Common.{◌≡◌, ℕ, ◌/◌, ◌<◌, ◌≤◌, Bool, true, false, ◌&&◌, List, [], ◌∷◌, ◌++◌, length, Option, Some, None, refl, sym, ap, subst, ◌∙◌, arith, eq-eqb, le-leb}
use Rattle.std.specs.Prelude.{◌==◌, nat_le, option_map, if◌then◌else◌, IfSome}
use Rattle.std.specs.List.{list_all}
use Rattle.std.proofs.lemmas.Bool.{and_parts, and_from, eqb-true}
use Rattle.std.proofs.lemmas.Bool.Decides.{nat_tests}
use Rattle.std.proofs.lemmas.List.Folds.{list_all-append}
use Rattle.iso_parts.specs.Numbers.{is_element}
use Rattle.iso_parts.specs.declared.digits.Digits.{Digits}
use Rattle.iso_parts.specs.declared.class.CharClass.TheVariants as classes
use Rattle.iso_parts.specs.declared.spec.FieldSpec.{FieldSpec}
use Rattle.iso_parts.specs.Class.{is_digit}
use Rattle.iso_parts.specs.PartLaws.{PartLaws}
use Rattle.iso_parts.specs.Spec.{Fits}
use Rattle.iso_table.specs.declared.edition87.EditionLine.{EditionLine}
use Rattle.iso_table.specs.Edition87.{IsEdition87, line, fixed, llvar, none, spec_of, row87}
use Rattle.iso_table.specs.Layout.{Layout}
use Rattle.iso_wire.specs.Decimal.{decimal}
use Rattle.iso_wire.specs.DecimalLaws.{DecimalLaws}
use Rattle.iso_wire.specs.OneSpelling.{WellFormed}
use Rattle.iso_wire.specs.Refusal.{refused_field, refused_by, message_refusal}
use Rattle.iso_wire.specs.Spelling.{AreBytes}
use Rattle.iso_order.specs.declared.act.Act.{Act}
use Rattle.iso_order.specs.declared.act.Act.TheVariants.{Debit, Credit, Inquiry, Undo, Complete}
use Rattle.iso_order.specs.declared.act.Money.{Money}
use Rattle.iso_order.specs.declared.key.TxKey.{TxKey}
use Rattle.iso_order.specs.Pan.{AccountNumber, is_pan}
use Rattle.iso_order.specs.Key.{class_digit, function_digit}
use Rattle.iso_order.specs.Adding.{elements_with_value}
use Rattle.iso_order.specs.Order.{Instruction, is_letter_or_digit, is_currency, is_account, has_amount, is_payment, is_hold_for, is_valid_act, money_of}
use Rattle.iso_order.specs.Requests.{RequestsFit, RequestsAreWellFormed, processing_code, moved_amount, named_by, partial_left, account_number, acquirer_code, original_data, replacement_amounts, no_fee, request_value, request}
use Rattle.iso_order.proofs.Decimals.{are_digits-acquirer}
use Rattle.iso_order.proofs.Fits.{IsTaken, refused-at}
use Rattle.iso_order.proofs.RequestVerdicts.{original-digits}
use Rattle.iso_order.proofs.Rows.{list_all-more, digit_code, digits_in, codes_in}
use Rattle.iso_order.proofs.Valid.{key_facts, moved-account, valid-parts}
use Rattle.iso_order.proofs.WellFormed.{bytes-none, bytes-more, bytes-decimal, bytes-at, ascending-at}

-- no other number has a value in a request
pub request-listed : (o : Instruction) → request o ≡ record { mti = o.key.base; elements = elements_with_value (request_value o.key o.act) (2 ∷ 3 ∷ 4 ∷ 7 ∷ 11 ∷ 32 ∷ 49 ∷ 90 ∷ 95 ∷ []) }
unfolding request
request-listed o = refl

-- ---- the money of a valid order

pub money-account : (key : TxKey) (act : Act) → is_valid_act key act ≡ true → IfSome (money_of act) (λ m. is_account m ≡ true)
money-account key (Debit m) h = moved-account m (and_parts (is_payment key) (has_amount m) h).1
money-account key (Credit m) h = moved-account m (and_parts (class_digit key == 2) (has_amount m) h).1
money-account key (Inquiry m) h = (and_parts (is_payment key && function_digit key == 0 && m.amount == 0) (is_account m) h).1
money-account key (Undo k left) h = tt
money-account key (Complete m hold) h =
    moved-account m (and_parts (class_digit key == 2 && function_digit key == 2) (has_amount m) (and_parts (class_digit key == 2 && function_digit key == 2 && has_amount m) (is_hold_for key hold) h).0).1

-- ---- each element

by_number : (b2 b3 b4 b7 b11 b32 b49 b90 b95 : Bool) (v2 v3 v4 v7 v11 v32 v49 v90 v95 : Option (List ℕ)) (P : List ℕ → Type 0)
    → (b2 ≡ true → IfSome v2 P) → (b3 ≡ true → IfSome v3 P) → (b4 ≡ true → IfSome v4 P) → (b7 ≡ true → IfSome v7 P) → (b11 ≡ true → IfSome v11 P)
    → (b32 ≡ true → IfSome v32 P) → (b49 ≡ true → IfSome v49 P) → (b90 ≡ true → IfSome v90 P) → (b95 ≡ true → IfSome v95 P)
    → IfSome (if b2 then v2 else if b3 then v3 else if b4 then v4 else if b7 then v7 else if b11 then v11 else if b32 then v32 else if b49 then v49 else if b90 then v90 else if b95 then v95 else None) P
by_number true b3 b4 b7 b11 b32 b49 b90 b95 v2 v3 v4 v7 v11 v32 v49 v90 v95 P a b c d e f g h i = a refl
by_number false true b4 b7 b11 b32 b49 b90 b95 v2 v3 v4 v7 v11 v32 v49 v90 v95 P a b c d e f g h i = b refl
by_number false false true b7 b11 b32 b49 b90 b95 v2 v3 v4 v7 v11 v32 v49 v90 v95 P a b c d e f g h i = c refl
by_number false false false true b11 b32 b49 b90 b95 v2 v3 v4 v7 v11 v32 v49 v90 v95 P a b c d e f g h i = d refl
by_number false false false false true b32 b49 b90 b95 v2 v3 v4 v7 v11 v32 v49 v90 v95 P a b c d e f g h i = e refl
by_number false false false false false true b49 b90 b95 v2 v3 v4 v7 v11 v32 v49 v90 v95 P a b c d e f g h i = f refl
by_number false false false false false false true b90 b95 v2 v3 v4 v7 v11 v32 v49 v90 v95 P a b c d e f g h i = g refl
by_number false false false false false false false true b95 v2 v3 v4 v7 v11 v32 v49 v90 v95 P a b c d e f g h i = h refl
by_number false false false false false false false false true v2 v3 v4 v7 v11 v32 v49 v90 v95 P a b c d e f g h i = i refl
by_number false false false false false false false false false v2 v3 v4 v7 v11 v32 v49 v90 v95 P a b c d e f g h i = tt

-- what holds of the value of each element, if it is there
record Each (key : TxKey) (act : Act) (P : ℕ → List ℕ → Type 0) : Type 0 where
  account : IfSome (request_value key act 2) (P 2)
  code : IfSome (request_value key act 3) (P 3)
  amount : IfSome (request_value key act 4) (P 4)
  sent : P 7 (decimal 10 key.sent)
  stan : P 11 (decimal 6 key.stan)
  acquirer : P 32 (acquirer_code key.acquirer)
  currency : IfSome (request_value key act 49) (P 49)
  original : IfSome (request_value key act 90) (P 90)
  replacement : IfSome (request_value key act 95) (P 95)

each-requested : (key : TxKey) (act : Act) (P : ℕ → List ℕ → Type 0) → Each key act P → (n : ℕ) → IfSome (request_value key act n) (P n)
each-requested key act P each n =
    let at = λ (k : ℕ) (v : Option (List ℕ)) (here : IfSome v (P k)) (is : (n == k) ≡ true). subst (λ (j : ℕ). IfSome v (P j)) (sym (eqb-true n k is)) here in
    by_number (n == 2) (n == 3) (n == 4) (n == 7) (n == 11) (n == 32) (n == 49) (n == 90) (n == 95)
    (request_value key act 2) (request_value key act 3) (request_value key act 4) (request_value key act 7) (request_value key act 11) (request_value key act 32) (request_value key act 49) (request_value key act 90) (request_value key act 95) (P n)
    (at 2 (request_value key act 2) each.account) (at 3 (request_value key act 3) each.code) (at 4 (request_value key act 4) each.amount)
    (at 7 (request_value key act 7) each.sent) (at 11 (request_value key act 11) each.stan) (at 32 (request_value key act 32) each.acquirer)
    (at 49 (request_value key act 49) each.currency) (at 90 (request_value key act 90) each.original) (at 95 (request_value key act 95) each.replacement)

-- ---- what each value is

some-map : {A : Type 0} (f : A → List ℕ) (o : Option A) (P : List ℕ → Type 0) → ((x : A) → P (f x)) → IfSome (option_map f o) P
some-map f (Some x) P each = each x
some-map f None P each = tt

some-money : (f : Money → List ℕ) (o : Option Money) (P : List ℕ → Type 0) → IfSome o (λ m. is_account m ≡ true) → ((m : Money) → is_account m ≡ true → P (f m)) → IfSome (option_map f o) P
some-money f (Some m) P good each = each m good
some-money f None P good each = tt

account-facts : (m : Money) → is_account m ≡ true → (is_pan m.pan ≡ true) × (length m.currency ≡ 3) × (list_all is_letter_or_digit m.currency ≡ true)
account-facts m h =
    let both = and_parts (is_pan m.pan) (is_currency m.currency) h in
    let currency = and_parts (length m.currency == 3) (list_all is_letter_or_digit m.currency) both.1 in
    (both.0, eqb-true (length m.currency) 3 currency.0, currency.1)

few_digits : (p : AccountNumber) → is_pan p ≡ true → p.len ≤ 19
few_digits p h = grind (arith, nat_tests)

acquirer-all : DecimalLaws → (v : ℕ) → list_all is_digit (acquirer_code v) ≡ true
acquirer-all decimals v = (and_parts (nat_le 1 (length (acquirer_code v)) && nat_le (length (acquirer_code v)) 11) (list_all is_digit (acquirer_code v)) (are_digits-acquirer decimals v)).1

replacement-codes : DecimalLaws → (left : ℕ) → list_all is_letter_or_digit (replacement_amounts left) ≡ true
replacement-codes decimals left =
    let none : List ℕ = decimal 12 0 ++ (no_fee ++ no_fee) in
    list_all-append is_letter_or_digit (decimal 12 left) none
    ∙ and_from (list_all is_letter_or_digit (decimal 12 left)) (list_all is_letter_or_digit none) (list_all-more is_digit is_letter_or_digit digit_code (decimal 12 left) (decimals.digits 12 left)) refl

-- ---- values under the built-in tables

module _ (laws : PartLaws) (decimals : DecimalLaws) (d : Digits) (t : Layout) (edition : IsEdition87 d t) where
  -- a value is taken where it fits the row of its line
  taken-by : (n : ℕ) (l : EditionLine) (v : List ℕ) → row87 d n ≡ Some (spec_of d n l) → Fits (spec_of d n l) v → IsTaken t.rows n v
  taken-by n l v row fits =
      ap (λ (r : Option FieldSpec). refused_by r n v) (edition.rows n ∙ row) ∙ ap (refused_field n) ((laws.fits (spec_of d n l) v).0 fits)

  -- digits of a count
  fixed-taken : (n size : ℕ) (v : List ℕ) → row87 d n ≡ Some (spec_of d n (line n n classes.N (fixed size) none)) → length v ≡ size → list_all is_digit v ≡ true → IsTaken t.rows n v
  fixed-taken n size v row long all =
      taken-by n (line n n classes.N (fixed size) none) v row
      (record { length = eq-eqb (length v) size long; class = digits_in classes.N v refl all; pad = refl })

  -- digits behind their length
  counted-taken : (n most : ℕ) (v : List ℕ) → row87 d n ≡ Some (spec_of d n (line n n classes.N (llvar most) none)) → length v ≤ most → list_all is_digit v ≡ true → IsTaken t.rows n v
  counted-taken n most v row few all =
      taken-by n (line n n classes.N (llvar most) none) v row
      (record { length = le-leb (length v) most few; class = digits_in classes.N v refl all; pad = refl })

  -- letters and digits of a count
  code-taken : (n size : ℕ) (v : List ℕ) → row87 d n ≡ Some (spec_of d n (line n n classes.AN (fixed size) none)) → length v ≡ size → list_all is_letter_or_digit v ≡ true → IsTaken t.rows n v
  code-taken n size v row long all =
      taken-by n (line n n classes.AN (fixed size) none) v row
      (record { length = eq-eqb (length v) size long; class = codes_in classes.AN v refl all; pad = refl })

  number-taken : (n size v : ℕ) → row87 d n ≡ Some (spec_of d n (line n n classes.N (fixed size) none)) → IsTaken t.rows n (decimal size v)
  number-taken n size v row = fixed-taken n size (decimal size v) row (decimals.size size v) (decimals.digits size v)

  each-taken : (key : TxKey) (act : Act) → IfSome (money_of act) (λ m. is_account m ≡ true) → Each key act (IsTaken t.rows)
  each-taken key act good =
      record {
        account = some-money account_number (money_of act) (IsTaken t.rows 2) good
            (λ m account. counted-taken 2 19 (account_number m) refl (omega (arith, decimals.size m.pan.len m.pan.digits, few_digits m.pan (account-facts m account).0)) (decimals.digits m.pan.len m.pan.digits));
        code = some-map (decimal 6) (processing_code act) (IsTaken t.rows 3) (λ v. number-taken 3 6 v refl);
        amount = some-map (decimal 12) (moved_amount act) (IsTaken t.rows 4) (λ v. number-taken 4 12 v refl);
        sent = number-taken 7 10 key.sent refl;
        stan = number-taken 11 6 key.stan refl;
        acquirer = counted-taken 32 11 (acquirer_code key.acquirer) refl (decimals.most 1 11 (acquirer_code key.acquirer) (are_digits-acquirer decimals key.acquirer)) (acquirer-all decimals key.acquirer);
        currency = some-money (λ (m : Money). m.currency) (money_of act) (IsTaken t.rows 49) good (λ m account. let facts = account-facts m account in code-taken 49 3 m.currency refl facts.1 facts.2);
        original = some-map original_data (named_by act) (IsTaken t.rows 90) (λ k. fixed-taken 90 42 (original_data k) refl refl (original-digits decimals k));
        replacement = some-map replacement_amounts (partial_left act) (IsTaken t.rows 95) (λ left. code-taken 95 42 (replacement_amounts left) refl refl (replacement-codes decimals left));
      }

numbers : List ℕ
numbers = 2 ∷ 3 ∷ 4 ∷ 7 ∷ 11 ∷ 32 ∷ 49 ∷ 90 ∷ 95 ∷ []

pub requests_fit_lem : PartLaws → DecimalLaws → RequestsFit
unfolding numbers
requests_fit_lem laws decimals o h d t edition =
    let parts = valid-parts o h in
    let value = request_value o.key o.act in
    let facts = key_facts o.key parts.0 in
    let version : (o.key.base / 1000 == t.version) ≡ true = eq-eqb (o.key.base / 1000) t.version (facts.version ∙ sym edition.version) in
    let each = each-requested o.key o.act (IsTaken t.rows) (each-taken laws decimals d t edition o.key o.act (money-account o.key o.act parts.1)) in
    ap (message_refusal t) (request-listed o) ∙ rw version (refused-at t.rows value numbers each)

-- ---- bytes

code_small : (b : ℕ) → is_letter_or_digit b ≡ true → b < 256
code_small b h = grind (arith, nat_tests)

bytes-codes : (v : List ℕ) → list_all is_letter_or_digit v ≡ true → AreBytes v
bytes-codes [] all = bytes-none
bytes-codes (b ∷ v) all = let both = and_parts (is_letter_or_digit b) (list_all is_letter_or_digit v) all in bytes-more b v (code_small b both.0) (bytes-codes v both.1)

bytes-digits : (v : List ℕ) → list_all is_digit v ≡ true → AreBytes v
bytes-digits v all = bytes-codes v (list_all-more is_digit is_letter_or_digit digit_code v all)

each-bytes : DecimalLaws → (key : TxKey) (act : Act) → IfSome (money_of act) (λ m. is_account m ≡ true) → Each key act (λ n v. AreBytes v)
each-bytes decimals key act good =
    record {
      account = some-map account_number (money_of act) AreBytes (λ m. bytes-decimal m.pan.len m.pan.digits);
      code = some-map (decimal 6) (processing_code act) AreBytes (λ v. bytes-decimal 6 v);
      amount = some-map (decimal 12) (moved_amount act) AreBytes (λ v. bytes-decimal 12 v);
      sent = bytes-decimal 10 key.sent;
      stan = bytes-decimal 6 key.stan;
      acquirer = bytes-digits (acquirer_code key.acquirer) (acquirer-all decimals key.acquirer);
      currency = some-money (λ (m : Money). m.currency) (money_of act) AreBytes good (λ m account. bytes-codes m.currency (account-facts m account).2);
      original = some-map original_data (named_by act) AreBytes (λ k. bytes-digits (original_data k) (original-digits decimals k));
      replacement = some-map replacement_amounts (partial_left act) AreBytes (λ left. bytes-codes (replacement_amounts left) (replacement-codes decimals left));
    }

pub requests_well_formed_lem : DecimalLaws → RequestsAreWellFormed
unfolding numbers
requests_well_formed_lem decimals o h =
    let parts = valid-parts o h in
    let value = request_value o.key o.act in
    let facts = key_facts o.key parts.0 in
    subst WellFormed (sym (request-listed o))
    (record {
      mti = omega (arith, facts.small);
      ascending = ascending-at is_element value (λ n is. is) 2 numbers refl;
      bytes = bytes-at value numbers (each-requested o.key o.act (λ n v. AreBytes v) (each-bytes decimals o.key o.act (money-account o.key o.act parts.1)));
    })
