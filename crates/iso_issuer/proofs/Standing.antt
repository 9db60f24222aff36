-- Which entries stand, and which never stand again.
use Rattle.std.proofs.Common.{◌≡◌, ◌≢◌, ℕ, Bool, true, false, not, refl, arith, ap, sym, ◌∙◌, subst, List, [], ◌∷◌, ◌++◌, cond}
use Rattle.std.specs.Prelude.{◌&&◌, ◌==◌, Option, Some, None, is_some, option_map}
use Rattle.std.proofs.lemmas.Grind.{common_steps}
use Rattle.iso_order.specs.declared.key.TxKey.{TxKey}
use Rattle.iso_order.specs.declared.act.Act.{Act}
use Rattle.iso_order.specs.declared.act.Act.TheVariants.{Debit, Credit, Inquiry, Undo, Complete}
use Rattle.iso_order.specs.Key.{class_digit, same_key}
use Rattle.iso_order.specs.Order.{Instruction}
use Rattle.iso_issuer.specs.declared.account.Account.{Account}
use Rattle.iso_issuer.specs.declared.effect.Side.TheVariants.{Debited, Held}
use Rattle.iso_issuer.specs.declared.journal.Entry.{Entry}
use Rattle.iso_issuer.specs.Effect.{effect_of, effect_by, effect_amount, is_key, same_side}
use Rattle.iso_issuer.specs.Journal.{entry_at, undone_key, left_by, left_at, reversal_of, is_nothing, is_reversed, smaller_of, is_counted, is_completed, is_ended, is_standing, weight}
use Rattle.iso_issuer.specs.Decision.{journal_of}
use Rattle.iso_issuer.specs.StandingLaws.{NoneReverses, AllReverseWholly, NeverStands}
use Rattle.iso_issuer.proofs.GoesOn.{find-more, journal-begins, answers-kept, key-found}

-- ---- which entries stand

-- an entry of class 2 is no hold
no-hold : (j : List Entry) (key : TxKey) (act : Act) → class_digit key ≡ 2 → is_ended j key (effect_by key act) ≡ false
no-hold j key (Debit m) two = ap (λ c. same_side (cond (c == 1) Held Debited) Held && is_completed j key m.pan) two
no-hold j key (Credit m) two = refl
no-hold j key (Inquiry m) two = refl
no-hold j key (Undo original left) two = refl
no-hold j key (Complete m hold) two = refl

-- so it stands where it counts
stands-counted : (j : List Entry) (e : Entry) → class_digit e.order.key ≡ 2 → is_standing j e ≡ is_counted j e
stands-counted j e two = ap (λ b. is_counted j e && not b) (no-hold j e.order.key e.order.act two) ∙ and_on (is_counted j e)
  where
    and_on : (b : Bool) → b && true ≡ b
    and_on true = refl
    and_on false = refl

pub granted-stands : (j : List Entry) (e : Entry) → class_digit e.order.key ≡ 2 → is_some (effect_of e.order) ≡ true → e.answer.code ≡ 0 → left_at j e.order.key ≡ None →
    is_standing j e ≡ true
granted-stands j e two moves granted none =
    stands-counted j e two
    ∙ ap (λ b. b && (e.answer.code == 0) && not (is_nothing (left_at j e.order.key))) moves
    ∙ ap (λ c. (c == 0) && not (is_nothing (left_at j e.order.key))) granted
    ∙ ap (λ o. not (is_nothing o)) none

pub granted-weighs : (j : List Entry) (e : Entry) → class_digit e.order.key ≡ 2 → is_some (effect_of e.order) ≡ true → e.answer.code ≡ 0 → left_at j e.order.key ≡ None →
    weight j e ≡ effect_amount (effect_of e.order)
granted-weighs j e two moves granted none =
    ap (λ b. cond b (smaller_of (effect_amount (effect_of e.order)) (left_at j e.order.key)) 0) (granted-stands j e two moves granted none)
    ∙ ap (smaller_of (effect_amount (effect_of e.order))) none

-- what doesn't count doesn't stand
fallen : (j : List Entry) (e : Entry) → is_counted j e ≡ false → is_standing j e ≡ false
fallen j e off = ap (λ b. b && not (is_ended j e.order.key (effect_of e.order))) off

and_off : (a b : Bool) → b ≡ false → a && b ≡ false
and_off true b h = h
and_off false b h = refl

pub declined-falls : (j : List Entry) (e : Entry) → e.answer.code ≢ 0 → is_standing j e ≡ false
declined-falls j e declined =
    fallen j e (ap (λ b. b && not (is_reversed j e.order.key)) (and_off (is_some (effect_of e.order)) (e.answer.code == 0) (not_zero e.answer.code declined)))
  where
    not_zero : (c : ℕ) → c ≢ 0 → (c == 0) ≡ false
    not_zero c h = grind (arith, common_steps)

pub reversed-falls : (j : List Entry) (e : Entry) → is_reversed j e.order.key ≡ true → is_standing j e ≡ false
reversed-falls j e reversed =
    fallen j e (and_off (is_some (effect_of e.order) && (e.answer.code == 0)) (not (is_reversed j e.order.key)) (ap not reversed))

pub fallen-weighs : (j : List Entry) (e : Entry) → is_standing j e ≡ false → weight j e ≡ 0
fallen-weighs j e off = ap (λ b. cond b (smaller_of (effect_amount (effect_of e.order)) (left_at j e.order.key)) 0) off

-- ---- which keys are reversed

pub left-stays : (j more : List Entry) (key : TxKey) (left : ℕ) → left_at j key ≡ Some left → left_at (j ++ more) key ≡ Some left
left-stays j more key left h = by_found (reversal_of j key) refl h
  where
    by_found : (o : Option Entry) → reversal_of j key ≡ o → option_map (λ r. left_by r.order.act) o ≡ Some left → left_at (j ++ more) key ≡ Some left
    by_found None none h = cc
    by_found (Some r) found h = ap (option_map (λ (r : Entry). left_by r.order.act)) (find-more (λ (r : Entry). is_key (undone_key r.order.act) key) j more r found) ∙ h

pub none-left : (j : List Entry) (key : TxKey) → NoneReverses j key → left_at j key ≡ None
none-left [] key none = refl
none-left (e ∷ es) key none = ap (λ b. option_map (λ (r : Entry). left_by r.order.act) (cond b (Some e) (reversal_of es key))) none.0 ∙ none-left es key none.1

pub none-stays : (j more : List Entry) (key : TxKey) → left_at j key ≡ None → NoneReverses more key → left_at (j ++ more) key ≡ None
none-stays [] more key h none = none-left more key none
none-stays (e ∷ es) more key h none = by_test (is_key (undone_key e.order.act) key) h (λ rest. none-stays es more key rest none)
  where
    by_test : (b : Bool) → option_map (λ (r : Entry). left_by r.order.act) (cond b (Some e) (reversal_of es key)) ≡ None → (left_at es key ≡ None → left_at (es ++ more) key ≡ None) →
        option_map (λ (r : Entry). left_by r.order.act) (cond b (Some e) (reversal_of (es ++ more) key)) ≡ None
    by_test true h rest = cc
    by_test false h rest = rest h

pub wholly-reversed : (j : List Entry) (key at : TxKey) (r : Entry) → AllReverseWholly j key → entry_at j at ≡ Some r → is_key (undone_key r.order.act) key ≡ true → is_reversed j key ≡ true
wholly-reversed [] key at r all found names = cc
wholly-reversed (e ∷ es) key at r all found names =
    by_test (is_key (undone_key e.order.act) key) refl (same_key e.order.key at) found (λ rest. wholly-reversed es key at r all.1 rest names)
  where
    leaves : Option Entry → Bool
    leaves o = is_nothing (option_map (λ (r : Entry). left_by r.order.act) o)

    by_test : (b : Bool) → is_key (undone_key e.order.act) key ≡ b → (t : Bool) → cond t (Some e) (entry_at es at) ≡ Some r →
        (entry_at es at ≡ Some r → is_reversed es key ≡ true) → leaves (cond b (Some e) (reversal_of es key)) ≡ true
    by_test true here t found rest = ap (λ n. n == 0) (all.0 here)
    by_test false away false found rest = rest found
    by_test false away true found rest =
        let same : e ≡ r = cc in
        let told : false ≡ true = sym away ∙ ap (λ (x : Entry). is_key (undone_key x.order.act) key) same ∙ names in
        cc

-- ---- what never stands again

pub nothing-stays : (j more : List Entry) (key : TxKey) → is_reversed j key ≡ true → is_reversed (j ++ more) key ≡ true
nothing-stays j more key h = by_left (left_at j key) refl h
  where
    by_left : (o : Option ℕ) → left_at j key ≡ o → is_nothing o ≡ true → is_reversed (j ++ more) key ≡ true
    by_left None none h = cc
    by_left (Some left) is h = ap is_nothing (left-stays j more key left is) ∙ h

reversed-kept : (accounts : List Account) (orders more : List Instruction) (key : TxKey) → is_reversed (journal_of accounts orders) key ≡ true →
    is_reversed (journal_of accounts (orders ++ more)) key ≡ true
reversed-kept accounts orders more key h =
    let rest = journal-begins accounts orders more in
    ap (λ (j : List Entry). is_reversed j key) rest.1 ∙ nothing-stays (journal_of accounts orders) rest.0 key h

-- an entry that doesn't count was declined, or is reversed, and both stay
falls-on : (p q : Bool) (r s : Bool) → p && q && not r ≡ false → (r ≡ true → s ≡ true) → p && q && not s ≡ false
falls-on false q r s h stays = refl
falls-on true false r s h stays = refl
falls-on true true true s h stays = ap not (stays refl)
falls-on true true false s h stays = cc

pub falls-for-good : (accounts : List Account) (orders : List Instruction) (key : TxKey) (e : Entry) →
    class_digit key ≡ 2 → entry_at (journal_of accounts orders) key ≡ Some e → is_standing (journal_of accounts orders) e ≡ false → NeverStands accounts orders key
falls-for-good accounts orders key e two here off more f distinct found =
    let j = journal_of accounts orders in
    let later = journal_of accounts (orders ++ more) in
    let own : class_digit e.order.key ≡ 2 = ap class_digit (key-found j key e here) ∙ two in
    let same : e ≡ f = same_of (sym (answers-kept accounts orders more key e here) ∙ found) in
    subst (λ (x : Entry). is_standing later x ≡ false) same
    (fallen later e
    (falls-on (is_some (effect_of e.order)) (e.answer.code == 0) (is_reversed j e.order.key) (is_reversed later e.order.key)
    (sym (stands-counted j e own) ∙ off) (reversed-kept accounts orders more e.order.key)))
  where
    same_of : Some e ≡ Some f → e ≡ f
    same_of h = cc

pub reversed-for-good : (accounts : List Account) (orders : List Instruction) (key : TxKey) → is_reversed (journal_of accounts orders) key ≡ true → NeverStands accounts orders key
reversed-for-good accounts orders key reversed more e distinct found =
    let later = journal_of accounts (orders ++ more) in
    reversed-falls later e (ap (is_reversed later) (key-found later key e found) ∙ reversed-kept accounts orders more key reversed)
