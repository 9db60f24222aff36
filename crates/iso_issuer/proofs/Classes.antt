-- The classes of a completion and of the hold that it ends.
use Rattle.std.proofs.Common.{◌≡◌, true, sym, subst, ap, ◌∙◌, ◌&&◌}
use Rattle.std.proofs.lemmas.Bool.{and_parts, eqb-true}
use Rattle.std.specs.Prelude.{IsTrue, ◌==◌}
use Rattle.iso_order.specs.declared.key.TxKey.{TxKey}
use Rattle.iso_order.specs.declared.act.Act.TheVariants.{Complete}
use Rattle.iso_order.specs.declared.act.Money.{Money}
use Rattle.iso_order.specs.Key.{class_digit, function_digit, is_valid_key, same_key}
use Rattle.iso_order.specs.Order.{Instruction, is_hold_for, has_amount, is_valid_act, is_valid}
use Rattle.iso_issuer.proofs.Keys.{same_key_is}

act_of : (o : Instruction) → IsTrue (is_valid o) → is_valid_act o.key o.act ≡ true
unfolding is_valid
act_of o h = (and_parts (is_valid_key o.key) (is_valid_act o.key o.act) h).1

classes_of : (key hold : TxKey) (m : Money) → is_valid_act key (Complete m hold) ≡ true → (class_digit hold ≡ 1) × (class_digit key ≡ 2)
classes_of key hold m h =
    let ends = and_parts (class_digit key == 2 && function_digit key == 2 && has_amount m) (is_hold_for key hold) h in
    let money = and_parts (class_digit key == 2 && function_digit key == 2) (has_amount m) ends.0 in
    let two = and_parts (class_digit key == 2) (function_digit key == 2) money.0 in
    let own = and_parts (is_valid_key hold && class_digit hold == 1) (hold.acquirer == key.acquirer) ends.1 in
    let class = and_parts (is_valid_key hold) (class_digit hold == 1) own.0 in
    (eqb-true (class_digit hold) 1 class.1, eqb-true (class_digit key) 2 two.0)

-- a hold is of class 1, and what ends it of class 2
pub complete-classes : (o : Instruction) (m : Money) (hold q : TxKey) → IsTrue (is_valid o) → o.act ≡ Complete m hold → same_key hold q ≡ true → (class_digit q ≡ 1) × (class_digit o.key ≡ 2)
complete-classes o m hold q h act same =
    let classes = classes_of o.key hold m (subst (λ a. is_valid_act o.key a ≡ true) act (act_of o h)) in
    (ap class_digit (sym (same_key_is hold q same)) ∙ classes.0, classes.1)
