-- What compares alike is one: keys, account numbers, money, acts and orders.
use Rattle.std.proofs.Common.{◌≡◌, ℕ, Bool, true, refl, arith, ap, sym, ◌∙◌, subst, List, [], ◌∷◌}
use Rattle.std.specs.Prelude.{IsTrue, ◌↔◌, ◌&&◌, ◌==◌}
use Rattle.std.specs.Str.{bytes_eq}
use Rattle.std.specs.Cmp.Lexicographic.{same_text}
use Rattle.std.proofs.lemmas.Grind.{common_steps}
use Rattle.std.proofs.lemmas.Bool.{and_parts}
use Rattle.iso_order.specs.declared.key.TxKey.{TxKey}
use Rattle.iso_order.specs.Pan.{AccountNumber}
use Rattle.iso_order.specs.declared.act.Money.{Money}
use Rattle.iso_order.specs.declared.act.Act.{Act}
use Rattle.iso_order.specs.declared.act.Act.TheVariants.{Debit, Credit, Inquiry, Undo, Complete}
use Rattle.iso_order.specs.Order.{Instruction, same_pan, same_money, same_act, same_order}
use Rattle.iso_order.specs.Key.{same_key}
use Rattle.iso_order.specs.Comparisons.{Comparisons}

-- keys that compare alike are one
pub same_key_is : (a b : TxKey) → same_key a b ≡ true → a ≡ b
same_key_is a b h = grind (arith, common_steps)

pub same_key_self : (a : TxKey) → same_key a a ≡ true
same_key_self a = grind (arith, common_steps)

pub same_pan_is : (a b : AccountNumber) → same_pan a b ≡ true → a ≡ b
same_pan_is a b h = grind (arith, common_steps)

pub same_pan_self : (a : AccountNumber) → same_pan a a ≡ true
same_pan_self a = grind (arith, common_steps)

bytes_is : (a b : List ℕ) → bytes_eq a b ≡ true → a ≡ b
bytes_is a b h = same_text a b (sym h)

bytes_self : (a : List ℕ) → bytes_eq a a ≡ true
bytes_self [] = refl
bytes_self (x ∷ xs) = grind (arith, common_steps, bytes_self xs)

pub same_money_is : (a b : Money) → same_money a b ≡ true → a ≡ b
same_money_is a b h =
    let parts = and_parts (same_pan a.pan b.pan && (a.amount == b.amount)) (bytes_eq a.currency b.currency) h in
    let first = and_parts (same_pan a.pan b.pan) (a.amount == b.amount) parts.0 in
    let pans = same_pan_is a.pan b.pan first.0 in
    let currencies = bytes_is a.currency b.currency parts.1 in
    let amounts : a.amount ≡ b.amount = grind (arith, common_steps, first.1) in
    grind arith

pub same_money_self : (a : Money) → same_money a a ≡ true
same_money_self a = grind (arith, common_steps, bytes_self a.currency)

pub same_act_is : (a b : Act) → same_act a b ≡ true → a ≡ b
same_act_is (Debit a) (Debit b) h = ap Debit (same_money_is a b h)
same_act_is (Credit a) (Credit b) h = ap Credit (same_money_is a b h)
same_act_is (Inquiry a) (Inquiry b) h = ap Inquiry (same_money_is a b h)
same_act_is (Undo a l) (Undo b n) h =
    let parts = and_parts (same_key a b) (l == n) h in
    let keys : a ≡ b = same_key_is a b parts.0 in
    let amounts : l ≡ n = grind (arith, common_steps, parts.1) in
    cc
same_act_is (Complete a h) (Complete b k) e =
    let parts = and_parts (same_money a b) (same_key h k) e in
    let moneys : a ≡ b = same_money_is a b parts.0 in
    let keys : h ≡ k = same_key_is h k parts.1 in
    cc
same_act_is _ _ h = cc

pub same_act_self : (a : Act) → same_act a a ≡ true
same_act_self (Debit m) = same_money_self m
same_act_self (Credit m) = same_money_self m
same_act_self (Inquiry m) = same_money_self m
same_act_self (Undo k left) = grind (arith, common_steps, same_key_self k)
same_act_self (Complete m hold) = grind (arith, same_money_self m, same_key_self hold)

pub same_order_is : (a b : Instruction) → same_order a b ≡ true → a ≡ b
same_order_is a b h = grind (arith, common_steps, same_key_is a.key b.key, same_act_is a.act b.act)

pub same_order_self : (a : Instruction) → same_order a a ≡ true
same_order_self a = grind (arith, same_key_self a.key, same_act_self a.act)

-- two orders are one where same_order says so
pub same_order_iff : (a b : Instruction) (r : Bool) → r ≡ same_order a b → IsTrue r ↔ (a ≡ b)
same_order_iff a b r h = (λ t. same_order_is a b (sym h ∙ t), λ e. h ∙ sym (subst (λ c. true ≡ same_order a c) e (sym (same_order_self a))))

-- ---- what compares alike is one

one_by : {X : Type 0} (same : X → X → Bool) → ((a b : X) → same a b ≡ true → a ≡ b) → ((a : X) → same a a ≡ true) → (a b : X) → (same a b ≡ true) ↔ (a ≡ b)
one_by same one self a b = (one a b, λ is. subst (λ c. same a c ≡ true) is (self a))

pub comparisons_lem : Comparisons
comparisons_lem = record {
  keys = one_by same_key same_key_is same_key_self;
  pans = one_by same_pan same_pan_is same_pan_self;
  moneys = one_by same_money same_money_is same_money_self;
  acts = one_by same_act same_act_is same_act_self;
  orders = one_by same_order same_order_is same_order_self;
}
