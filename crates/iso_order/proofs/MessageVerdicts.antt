-- Which verdict a message gets by what it tells.
use Rattle.std.proofs.Common.{◌≡◌, ℕ, Bool, true, false, ◌&&◌, List, ◌++◌, Option, refl, sym, ap, ◌∙◌, arith, eq-eqb}
use Rattle.std.specs.Prelude.{◌==◌, ◌||◌, nat_lt}
use Rattle.std.proofs.lemmas.Bool.Decides.{nat_tests}
use Rattle.iso_wire.specs.Contents.{Contents}
use Rattle.iso_order.specs.declared.act.Act.{Act}
use Rattle.iso_order.specs.declared.act.Act.TheVariants.{Credit, Inquiry, Undo}
use Rattle.iso_order.specs.declared.act.Money.{Money}
use Rattle.iso_order.specs.declared.key.TxKey.{TxKey}
use Rattle.iso_order.specs.declared.verdict.Verdict.{Verdict}
use Rattle.iso_order.specs.declared.verdict.Verdict.TheVariants.{Order}
use Rattle.iso_order.specs.Fields.{version, class, function, origin, text, has_key, key_of, message_money, original_mti, is_original, is_own, original_of, is_completion, hold_of, is_replacement, left_of, kind}
use Rattle.iso_parts.specs.Mti.{is_answered}
use Rattle.iso_order.specs.Order.{is_currency}
use Rattle.iso_wire.specs.Decimal.{are_digits, number}
use Rattle.iso_order.specs.Verdict.{first_of, network_lines, key_lines, reversal_lines, completion_lines, account_lines, act_lines, amount_lines, credit_verdict, order_verdict, debited_by, verdict}
use Rattle.iso_order.proofs.Table.{past_answered, not_network, with_key, not_reversal, is_replaced, with_original, with_account}

-- ---- messages of a key

-- the message is under the key, and asks
pub record Keyed (m : Contents) (k : TxKey) : Type 0 where
  pub answered : (version m == 0 && is_answered (function m)) ≡ true
  pub origin : nat_lt 5 (origin m) ≡ false
  pub named : has_key m ≡ true
  pub key : key_of m ≡ k

-- the whole table of a message of class 1, 2 or 4 that has a key
keyed-verdict : (m : Contents) (k : TxKey) → Keyed m k → (class m == 8) ≡ false → (class m == 1 || class m == 2 || class m == 4) ≡ true
    → verdict m ≡ first_of (reversal_lines m ++ completion_lines m ++ account_lines m ++ act_lines m ++ amount_lines m) (credit_verdict m)
unfolding verdict
keyed-verdict m k keyed other served =
    let rest = reversal_lines m ++ completion_lines m ++ account_lines m ++ act_lines m ++ amount_lines m in
    past_answered m (network_lines m ++ key_lines m ++ rest) (credit_verdict m) keyed.answered keyed.origin
    ∙ not_network m (key_lines m ++ rest) (credit_verdict m) other
    ∙ with_key m rest (credit_verdict m) served keyed.named

-- what is asked under the key
asked-order : (m : Contents) (k : TxKey) (a act : Act) → key_of m ≡ k → a ≡ act → order_verdict m a ≡ Order (record { key = k; act = act })
asked-order m k a act key same = rw (key, same) refl

pub reversal-verdict : (m : Contents) (k original : TxKey) (left : ℕ) → Keyed m k → class m ≡ 4 → is_replacement m ≡ true → are_digits 42 42 (text m 90) ≡ true
    → is_original (original_mti m) ≡ true → is_own m ≡ true → original_of m ≡ original → left_of m ≡ left → verdict m ≡ Order (record { key = k; act = Undo original left })
reversal-verdict m k original left keyed four replaced digits type own named leaves =
    let rest = completion_lines m ++ account_lines m ++ act_lines m ++ amount_lines m in
    let is4 = eq-eqb (class m) 4 four in
    keyed-verdict m k keyed (rw four refl) (rw four refl)
    ∙ is_replaced m rest (credit_verdict m) replaced
    ∙ with_original m rest (credit_verdict m) is4 digits type own
    ∙ asked-order m k (Undo (original_of m) (left_of m)) (Undo original left) keyed.key (rw (named, leaves) refl)

-- ---- payments

-- the message tells the money
pub record Paying (m : Contents) (k : TxKey) (money : Money) (code : ℕ) : Type 0 where
  pub keyed : Keyed m k
  pub payment : (class m == 1 || class m == 2) ≡ true
  pub account : are_digits 1 19 (text m 2) ≡ true
  pub coded : are_digits 6 6 (text m 3) ≡ true
  pub of_kind : kind m ≡ code
  pub currency : is_currency (text m 49) ≡ true
  pub told : message_money m money.amount ≡ money
  -- no hold is named, or one that can be completed
  pub completing : (lines : List (Bool × Verdict)) (last : Verdict) → first_of (completion_lines m ++ lines) last ≡ first_of lines last

-- the element 4 of what is moved
pub record Moving (m : Contents) (money : Money) : Type 0 where
  pub digits : are_digits 12 12 (text m 4) ≡ true
  pub amount : number (text m 4) ≡ money.amount
  pub some : (money.amount == 0) ≡ false

not_others : (n : ℕ) → (n == 1 || n == 2) ≡ true → ((n == 8) ≡ false) × ((n == 4) ≡ false) × ((n == 1 || n == 2 || n == 4) ≡ true)
not_others n h = (grind (arith, nat_tests), grind (arith, nat_tests), grind (arith, nat_tests))

-- the lines on the processing code and the amount
paying-verdict : (m : Contents) (k : TxKey) (money : Money) (code : ℕ) → Paying m k money code → verdict m ≡ first_of (act_lines m ++ amount_lines m) (credit_verdict m)
paying-verdict m k money code p =
    let classes = not_others (class m) p.payment in
    let rest = act_lines m ++ amount_lines m in
    keyed-verdict m k p.keyed classes.0 classes.2
    ∙ not_reversal m (completion_lines m ++ account_lines m ++ rest) (credit_verdict m) classes.1
    ∙ p.completing (account_lines m ++ rest) (credit_verdict m)
    ∙ with_account m rest (credit_verdict m) p.account p.coded p.currency

pub debit-verdict : (m : Contents) (k : TxKey) (money : Money) (hold : Option TxKey) → Paying m k money 0 → Moving m money → hold_of m ≡ hold → verdict m ≡ Order (record { key = k; act = debited_by money hold })
debit-verdict m k money hold p moving named =
    paying-verdict m k money 0 p ∙ rw (p.of_kind, moving.digits, moving.amount, moving.some, named, p.told, p.keyed.key) refl

pub credit-verdict : (m : Contents) (k : TxKey) (money : Money) → Paying m k money 20 → Moving m money → (class m == 1) ≡ false → is_completion m ≡ false → verdict m ≡ Order (record { key = k; act = Credit money })
credit-verdict m k money p moving two plain =
    paying-verdict m k money 20 p ∙ rw (p.of_kind, two, plain, moving.digits, moving.amount, moving.some, p.told, p.keyed.key) refl

pub inquiry-verdict : (m : Contents) (k : TxKey) (money : Money) → Paying m k money 31 → (function m == 2) ≡ false → money.amount ≡ 0 → verdict m ≡ Order (record { key = k; act = Inquiry money })
inquiry-verdict m k money p asking none =
    let same : message_money m 0 ≡ money = ap (message_money m) (sym none) ∙ p.told in
    paying-verdict m k money 31 p ∙ rw (p.of_kind, asking, same, p.keyed.key) refl
