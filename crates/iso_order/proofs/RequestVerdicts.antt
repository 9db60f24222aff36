-- What a request asks is the order.
use Rattle.std.proofs.Common.{◌≡◌, ℕ, ◌/◌, ◌%◌, ◌^◌, ◌<◌, ◌≤◌, Bool, true, false, ◌&&◌, List, [], ◌++◌, length, Option, Some, None, refl, sym, ap, ◌∙◌, arith, eq-eqb, le-leb}
use Rattle.std.specs.Prelude.{◌==◌, ◌||◌, nat_le, nat_lt, is_some, option_map, unwrap_or, if◌then◌else◌}
use Rattle.std.specs.List.{list_all}
use Rattle.std.proofs.lemmas.Bool.{and_parts, and_from, eqb-true, leb-true}
use Rattle.std.proofs.lemmas.Bool.Decides.{nat_tests}
use Rattle.std.proofs.lemmas.List.Folds.{list_all-append}
use Rattle.iso_wire.specs.Contents.{Contents}
use Rattle.iso_wire.specs.Decimal.{decimal, are_digits, number}
use Rattle.iso_wire.specs.DecimalLaws.{DecimalLaws}
use Rattle.iso_wire.specs.Elements.{has, value_in}
use Rattle.iso_order.specs.declared.act.Act.{Act}
use Rattle.iso_order.specs.declared.act.Act.TheVariants.{Debit, Credit, Inquiry, Undo, Complete}
use Rattle.iso_order.specs.declared.act.Money.{Money}
use Rattle.iso_order.specs.declared.key.TxKey.{TxKey}
use Rattle.iso_order.specs.declared.verdict.Verdict.{Verdict}
use Rattle.iso_order.specs.declared.verdict.Verdict.TheVariants.{Order}
use Rattle.iso_order.specs.Pan.{AccountNumber, is_pan}
use Rattle.iso_order.specs.Fields.{class, function, base_of, text, number_from, original_mti, is_original, is_own, original_of, is_completion, is_hold, hold_of, is_replacement, left_of}
use Rattle.iso_parts.specs.Mti.{is_answered}
use Rattle.iso_order.specs.Key.{class_digit, function_digit, is_valid_key}
use Rattle.iso_order.specs.Order.{is_currency, is_account, has_amount, is_payment, is_hold_for, is_valid_act, money_of}
use Rattle.iso_order.specs.Requests.{RequestsAsk, processing_code, moved_amount, named_by, account_number, acquirer_code, original_data, replacement_amounts, request_value, request}
use Rattle.iso_parts.specs.Class.{is_digit}
use Rattle.iso_order.specs.Verdict.{first_of, completion_lines, verdict}
use Rattle.iso_order.proofs.Ascending.{value_in-from}
use Rattle.iso_order.proofs.Decimals.{digits-by, are_digits-acquirer, number-acquirer}
use Rattle.iso_order.proofs.MessageVerdicts.{Keyed, Paying, Moving, reversal-verdict, debit-verdict, credit-verdict, inquiry-verdict}
use Rattle.iso_order.proofs.Table.{not_completing, with_hold}
use Rattle.iso_order.proofs.Valid.{KeyFacts, key_facts, moved-account, valid-parts}

-- the original data elements are digits
pub original-digits : DecimalLaws → (k : TxKey) → list_all is_digit (original_data k) ≡ true
original-digits decimals k =
    let behind3 : List ℕ = decimal 11 k.acquirer ++ decimal 11 0 in
    let behind2 : List ℕ = decimal 10 k.sent ++ behind3 in
    let behind1 : List ℕ = decimal 6 k.stan ++ behind2 in
    let last = list_all-append is_digit (decimal 11 k.acquirer) (decimal 11 0) ∙ and_from (list_all is_digit (decimal 11 k.acquirer)) (list_all is_digit (decimal 11 0)) (decimals.digits 11 k.acquirer) (decimals.digits 11 0) in
    let third = list_all-append is_digit (decimal 10 k.sent) behind3 ∙ and_from (list_all is_digit (decimal 10 k.sent)) (list_all is_digit behind3) (decimals.digits 10 k.sent) last in
    let second = list_all-append is_digit (decimal 6 k.stan) behind2 ∙ and_from (list_all is_digit (decimal 6 k.stan)) (list_all is_digit behind2) (decimals.digits 6 k.stan) third in
    list_all-append is_digit (decimal 4 k.base) behind1 ∙ and_from (list_all is_digit (decimal 4 k.base)) (list_all is_digit behind1) (decimals.digits 4 k.base) second

-- ---- the request under a key

module _ (key : TxKey) (act : Act) (valid : is_valid_key key ≡ true) where
  abbrev m : Contents
  m = request (record { key = key; act = act })

  facts : KeyFacts key
  facts = key_facts key valid

  mti-is : m.mti ≡ key.base
  unfolding request
  mti-is = refl

  pub value-is : (n : ℕ) → 2 ≤ n → n ≤ 128 → value_in m.elements n ≡ request_value key act n
  unfolding request
  value-is n low high = value_in-from (request_value key act) 2 127 n low (omega arith)

  text-is : (n : ℕ) → 2 ≤ n → n ≤ 128 → text m n ≡ unwrap_or (request_value key act n) []
  text-is n low high = ap (λ (v : Option (List ℕ)). unwrap_or v []) (value-is n low high)

  sent-text : text m 7 ≡ decimal 10 key.sent
  sent-text = text-is 7 (omega arith) (omega arith)

  stan-text : text m 11 ≡ decimal 6 key.stan
  stan-text = text-is 11 (omega arith) (omega arith)

  acquirer-text : text m 32 ≡ acquirer_code key.acquirer
  acquirer-text = text-is 32 (omega arith) (omega arith)

  class-is : class m ≡ class_digit key
  class-is = ap (λ (n : ℕ). n / 100 % 10) mti-is

  function-is : function m ≡ function_digit key
  function-is = ap (λ (n : ℕ). n / 10 % 10) mti-is

  pan-parts : (p : AccountNumber) → is_pan p ≡ true → (1 ≤ p.len) × (p.len ≤ 19) × (p.digits < 10 ^ p.len)
  pan-parts p h = (grind (arith, nat_tests), grind (arith, nat_tests), grind (arith, nat_tests))

  naming : has m.elements 90 ≡ is_some (option_map original_data (named_by act))
  naming = ap (λ (v : Option (List ℕ)). is_some v) (value-is 90 (omega arith) (omega arith))

  not_naming : named_by act ≡ None → is_completion m ≡ false
  not_naming none = off (class m == 2 && function m == 2) (has m.elements 90) (naming ∙ ap (λ (o : Option TxKey). is_some (option_map original_data o)) none)
    where
      off : (p q : Bool) → q ≡ false → (p && q) ≡ false
      off true q h = h
      off false q h = refl

  module _ (decimals : DecimalLaws) where
    acquirer-is : number (text m 32) ≡ key.acquirer
    acquirer-is = ap number acquirer-text ∙ number-acquirer decimals key.acquirer facts.acquirer

    keyed : Keyed m key
    keyed =
        let stan-is : number (text m 11) ≡ key.stan = ap number stan-text ∙ decimals.number 6 key.stan facts.stan in
        let sent-is : number (text m 7) ≡ key.sent = ap number sent-text ∙ decimals.number 10 key.sent facts.sent in
        let origin_small : nat_lt 5 (key.base % 10) ≡ false = let low = facts.origin in grind (arith, nat_tests) in
        let version_zero : (key.base / 1000 == 0) ≡ true = eq-eqb (key.base / 1000) 0 facts.version in
        record {
          answered = ap (λ (n : ℕ). n / 1000 == 0 && is_answered (n / 10 % 10)) mti-is ∙ and_from _ _ version_zero facts.asking;
          origin = ap (λ (n : ℕ). nat_lt 5 (n % 10)) mti-is ∙ origin_small;
          named =
              and_from _ _ (and_from _ _ (ap (are_digits 10 10) sent-text ∙ decimals.text 10 key.sent) (ap (are_digits 6 6) stan-text ∙ decimals.text 6 key.stan))
              (ap (are_digits 1 11) acquirer-text ∙ are_digits-acquirer decimals key.acquirer);
          key = rw (stan-is, sent-is, acquirer-is) (ap (λ (n : ℕ). record key { base = n }) (ap base_of mti-is ∙ facts.first));
        }

    -- ---- money

    paying : (money : Money) (code digits : ℕ) → money_of act ≡ Some money → processing_code act ≡ Some digits → number_from 0 2 (decimal 6 digits) ≡ code → is_account money ≡ true → is_payment key ≡ true
        → ((lines : List (Bool × Verdict)) (last : Verdict) → first_of (completion_lines m ++ lines) last ≡ first_of lines last) → Paying m key money code
    paying money code digits has_money has_code kind-is account payment completing =
        let account-text : text m 2 ≡ account_number money = text-is 2 (omega arith) (omega arith) ∙ ap (λ (o : Option Money). unwrap_or (option_map account_number o) []) has_money in
        let code-text : text m 3 ≡ decimal 6 digits = text-is 3 (omega arith) (omega arith) ∙ ap (λ (o : Option ℕ). unwrap_or (option_map (decimal 6) o) []) has_code in
        let currency-text : text m 49 ≡ money.currency = text-is 49 (omega arith) (omega arith) ∙ ap (λ (o : Option Money). unwrap_or (option_map (λ (x : Money). x.currency) o) []) has_money in
        let both = and_parts (is_pan money.pan) (is_currency money.currency) account in
        let pan = pan-parts money.pan both.0 in
        let size = decimals.size money.pan.len money.pan.digits in
        let number-is : number (text m 2) ≡ money.pan.digits = ap number account-text ∙ decimals.number money.pan.len money.pan.digits pan.2 in
        let length-is : length (text m 2) ≡ money.pan.len = ap (λ (t : List ℕ). length t) account-text ∙ size in
        record {
          keyed = keyed;
          payment = ap (λ (n : ℕ). n == 1 || n == 2) class-is ∙ payment;
          account = ap (are_digits 1 19) account-text ∙ digits-by 1 19 (account_number money) (omega (arith, pan.0)) (omega (arith, pan.1)) (decimals.digits money.pan.len money.pan.digits);
          coded = ap (are_digits 6 6) code-text ∙ decimals.text 6 digits;
          of_kind = ap (number_from 0 2) code-text ∙ kind-is;
          currency = ap is_currency currency-text ∙ both.1;
          told = rw (number-is, length-is, currency-text) refl;
          completing = completing;
        }

    moving : (money : Money) → moved_amount act ≡ Some money.amount → has_amount money ≡ true → Moving m money
    moving money moves good =
        let most = and_parts (is_account money && nat_le 1 money.amount) (nat_le money.amount 999999999999) good in
        let least = and_parts (is_account money) (nat_le 1 money.amount) most.0 in
        let small : money.amount < 10 ^ 12 = omega (arith, leb-true money.amount 999999999999 most.1) in
        let amount-text : text m 4 ≡ decimal 12 money.amount = text-is 4 (omega arith) (omega arith) ∙ ap (λ (o : Option ℕ). unwrap_or (option_map (decimal 12) o) []) moves in
        let one = leb-true 1 money.amount least.1 in
        record {
          digits = ap (are_digits 12 12) amount-text ∙ decimals.text 12 money.amount;
          amount = ap number amount-text ∙ decimals.number 12 money.amount small;
          some = grind (arith, nat_tests);
        }

    -- ---- a transaction that is named

    module _ (k : TxKey) (named : named_by act ≡ Some k) (good : is_valid_key k ≡ true) (own : k.acquirer ≡ key.acquirer) where
      named-facts : KeyFacts k
      named-facts = key_facts k good

      data-text : text m 90 ≡ original_data k
      data-text = text-is 90 (omega arith) (omega arith) ∙ ap (λ (o : Option TxKey). unwrap_or (option_map original_data o) []) named

      data-digits : are_digits 42 42 (text m 90) ≡ true
      data-digits =
          ap (are_digits 42 42) data-text ∙ digits-by 42 42 (original_data k) (omega arith) (omega arith) (original-digits decimals k)

      named-mti : original_mti m ≡ k.base
      named-mti = ap (number_from 0 4) data-text ∙ decimals.number 4 k.base named-facts.small

      named-key : original_of m ≡ k
      named-key =
          let stan-is : number_from 4 6 (text m 90) ≡ k.stan = ap (number_from 4 6) data-text ∙ decimals.number 6 k.stan named-facts.stan in
          let sent-is : number_from 10 10 (text m 90) ≡ k.sent = ap (number_from 10 10) data-text ∙ decimals.number 10 k.sent named-facts.sent in
          let same : number (text m 32) ≡ k.acquirer = acquirer-is ∙ sym own in
          rw (stan-is, sent-is, same) (ap (λ (n : ℕ). record k { base = n }) (ap base_of named-mti ∙ named-facts.first))

      named-own : is_own m ≡ true
      named-own =
          let told : number_from 20 11 (text m 90) ≡ key.acquirer = ap (number_from 20 11) data-text ∙ decimals.number 11 k.acquirer named-facts.acquirer ∙ own in
          let itself : (key.acquirer == key.acquirer) ≡ true = eq-eqb key.acquirer key.acquirer refl in
          rw (told, acquirer-is, itself) (or_true (key.acquirer == 0))
        where
          or_true : (p : Bool) → (p || true) ≡ true
          or_true true = refl
          or_true false = refl

      named-original : is_payment k ≡ true → is_original (original_mti m) ≡ true
      named-original payment =
          ap is_original named-mti
          ∙ and_from _ _ (and_from _ _ (and_from _ _ (eq-eqb (k.base / 1000) 0 named-facts.version) payment) named-facts.asking) (le-leb (k.base % 10) 5 named-facts.origin)

      named-hold : (class_digit k == 1) ≡ true → is_hold (original_mti m) ≡ true
      named-hold one =
          and_from _ _ (named-original (ap (λ b. b || (class_digit k == 2)) one)) (ap (λ n. n / 100 % 10 == 1) named-mti ∙ one)

      is_naming : class_digit key ≡ 2 → function_digit key ≡ 2 → is_completion m ≡ true
      is_naming two advice =
          and_from _ _ (and_from _ _ (eq-eqb (class m) 2 (class-is ∙ two)) (eq-eqb (function m) 2 (function-is ∙ advice)))
          (naming ∙ ap (λ (o : Option TxKey). is_some (option_map original_data o)) named)

-- ---- what a reversal leaves

module _ (key original : TxKey) (left : ℕ) (valid : is_valid_key key ≡ true) (few : left ≤ 999999999999) where
  abbrev reversing : Act
  reversing = Undo original left

  leaving : DecimalLaws → (t : Bool) → (left == 0) ≡ t → (is_replacement (m key reversing valid) ≡ true) × (left_of (m key reversing valid) ≡ left)
  leaving decimals true none =
      let missing : value_in (m key reversing valid).elements 95 ≡ None = value-is key reversing valid 95 (omega arith) (omega arith) ∙ ap (λ (t : Bool). option_map replacement_amounts (if t then None else Some left)) none in
      (rw missing refl, rw missing (sym (eqb-true left 0 none)))
  leaving decimals false some =
      let there : value_in (m key reversing valid).elements 95 ≡ Some (replacement_amounts left) = value-is key reversing valid 95 (omega arith) (omega arith) ∙ ap (λ (t : Bool). option_map replacement_amounts (if t then None else Some left)) some in
      (rw there (decimals.text 12 left), rw there (decimals.number 12 left (omega arith)))

-- ---- each act

other_class : (n : ℕ) → (n == 2) ≡ true → (n == 1) ≡ false
other_class n h = grind (arith, nat_tests)

other_function : (n : ℕ) → (n == 0) ≡ true → (n == 2) ≡ false
other_function n h = grind (arith, nat_tests)

asks-act : DecimalLaws → (key : TxKey) (act : Act) (valid : is_valid_key key ≡ true) → is_valid_act key act ≡ true → verdict (m key act valid) ≡ Order (record { key = key; act = act })
asks-act decimals key (Debit money) valid h =
    let act = Debit money in
    let parts = and_parts (is_payment key) (has_amount money) h in
    let account = moved-account money parts.1 in
    let plain = not_naming key act valid refl in
    let none : hold_of (m key act valid) ≡ None = rw plain refl in
    debit-verdict (m key act valid) key money None
    (paying key act valid decimals money 0 0 refl refl refl account parts.0 (λ lines last. not_completing (m key act valid) lines last plain))
    (moving key act valid decimals money refl parts.1) none
asks-act decimals key (Credit money) valid h =
    let act = Credit money in
    let parts = and_parts (class_digit key == 2) (has_amount money) h in
    let account = moved-account money parts.1 in
    let plain = not_naming key act valid refl in
    let two = eqb-true (class_digit key) 2 parts.0 in
    let payment : is_payment key ≡ true = rw two refl in
    let financial : (class (m key act valid) == 1) ≡ false = ap (λ (n : ℕ). n == 1) (class-is key act valid) ∙ other_class (class_digit key) parts.0 in
    credit-verdict (m key act valid) key money
    (paying key act valid decimals money 20 200000 refl refl refl account payment (λ lines last. not_completing (m key act valid) lines last plain))
    (moving key act valid decimals money refl parts.1) financial plain
asks-act decimals key (Inquiry money) valid h =
    let act = Inquiry money in
    let parts = and_parts (is_payment key && function_digit key == 0 && money.amount == 0) (is_account money) h in
    let front = and_parts (is_payment key && function_digit key == 0) (money.amount == 0) parts.0 in
    let first = and_parts (is_payment key) (function_digit key == 0) front.0 in
    let plain = not_naming key act valid refl in
    let asking : (function (m key act valid) == 2) ≡ false = ap (λ (n : ℕ). n == 2) (function-is key act valid) ∙ other_function (function_digit key) first.1 in
    inquiry-verdict (m key act valid) key money
    (paying key act valid decimals money 31 310000 refl refl refl parts.1 first.0 (λ lines last. not_completing (m key act valid) lines last plain))
    asking (eqb-true money.amount 0 front.1)
asks-act decimals key (Undo original left) valid h =
    let act = Undo original left in
    let small = and_parts (class_digit key == 4 && is_valid_key original && is_payment original && original.acquirer == key.acquirer) (nat_le left 999999999999) h in
    let same = and_parts (class_digit key == 4 && is_valid_key original && is_payment original) (original.acquirer == key.acquirer) small.0 in
    let payment = and_parts (class_digit key == 4 && is_valid_key original) (is_payment original) same.0 in
    let first = and_parts (class_digit key == 4) (is_valid_key original) payment.0 in
    let own = eqb-true original.acquirer key.acquirer same.1 in
    let leaves = leaving key original left valid (leb-true left 999999999999 small.1) decimals (left == 0) refl in
    reversal-verdict (m key act valid) key original left (keyed key act valid decimals) (class-is key act valid ∙ eqb-true (class_digit key) 4 first.0) leaves.0
    (data-digits key act valid decimals original refl first.1 own) (named-original key act valid decimals original refl first.1 own payment.1) (named-own key act valid decimals original refl first.1 own)
    (named-key key act valid decimals original refl first.1 own) leaves.1
asks-act decimals key (Complete money hold) valid h =
    let act = Complete money hold in
    let parts = and_parts (class_digit key == 2 && function_digit key == 2 && has_amount money) (is_hold_for key hold) h in
    let front = and_parts (class_digit key == 2 && function_digit key == 2) (has_amount money) parts.0 in
    let first = and_parts (class_digit key == 2) (function_digit key == 2) front.0 in
    let two = eqb-true (class_digit key) 2 first.0 in
    let advice = eqb-true (function_digit key) 2 first.1 in
    let account = moved-account money front.1 in
    let same = and_parts (is_valid_key hold && class_digit hold == 1) (hold.acquirer == key.acquirer) parts.1 in
    let authorization = and_parts (is_valid_key hold) (class_digit hold == 1) same.0 in
    let good = authorization.0 in
    let own = eqb-true hold.acquirer key.acquirer same.1 in
    let payment : is_payment key ≡ true = rw two refl in
    let completing = is_naming key act valid decimals hold refl good own two advice in
    let named : hold_of (m key act valid) ≡ Some hold = rw completing (ap (λ (k : TxKey). Some k) (named-key key act valid decimals hold refl good own)) in
    debit-verdict (m key act valid) key money (Some hold)
    (paying key act valid decimals money 0 0 refl refl refl account payment
    (λ lines last. with_hold (m key act valid) lines last completing (data-digits key act valid decimals hold refl good own) (named-hold key act valid decimals hold refl good own authorization.1) (named-own key act valid decimals hold refl good own)))
    (moving key act valid decimals money refl front.1) named

pub requests_ask_lem : DecimalLaws → RequestsAsk
requests_ask_lem decimals o h = let parts = valid-parts o h in asks-act decimals o.key o.act parts.0 parts.1
