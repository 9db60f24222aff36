-- What an issuer shows: a balance of at most twelve digits, for an inquiry alone.
use Rattle.std.proofs.Common.{◌≡◌, Bool, true, false, cond, eqb, List, [], ◌∷◌, ◌++◌, refl, sym, arith, ap, ◌∙◌}
use Rattle.std.specs.Prelude.{◌&&◌, nat_le, ℤ, pos, negsuc, unsigned_abs, Option, Some, None, option_map}
use Rattle.std.proofs.lemmas.Bool.Decides.{nat_tests}
use Rattle.iso_order.specs.declared.key.TxKey.{TxKey}
use Rattle.iso_order.specs.declared.act.Act.{Act}
use Rattle.iso_order.specs.declared.act.Act.TheVariants.{Debit, Credit, Inquiry, Undo, Complete}
use Rattle.iso_order.specs.declared.act.Money.{Money}
use Rattle.iso_order.specs.Key.{same_key}
use Rattle.iso_order.specs.Order.{Instruction, same_act, same_order, same_currency}
use Rattle.iso_order.specs.Response.{is_inquiry_order}
use Rattle.iso_issuer.specs.declared.account.Account.{Account}
use Rattle.iso_issuer.specs.declared.journal.Entry.{Entry}
use Rattle.iso_issuer.specs.Account.{account_of}
use Rattle.iso_issuer.specs.Balance.{available}
use Rattle.iso_issuer.specs.Decision.{is_wide, account_code, code_of, new_answer, new_entry, entries_after, journal_of, repeat_answer, answer_by, answer_for, is_shown_for}
use Rattle.iso_issuer.specs.Journal.{is_reversed, entry_at}

-- ---- a new answer

narrow : (z : ℤ) → is_wide z ≡ false → nat_le (unsigned_abs z) 999999999999 && true ≡ true
narrow (pos n) h = grind (arith, nat_tests, h)
narrow (negsuc n) h = grind (arith, nat_tests, h)

-- the code of an inquiry, by the tests on it
shown_inquiry : (money : Money) (z : ℤ) (reversed same wide : Bool) → is_wide z ≡ wide
    → is_shown_for (Inquiry money) (cond (eqb (cond reversed 21 (cond same (cond wide 96 0) 12)) 0) (Some z) None) ≡ true
shown_inquiry money z true same wide h = refl
shown_inquiry money z false false wide h = refl
shown_inquiry money z false true true h = refl
shown_inquiry money z false true false h = narrow z h

no_account : (money : Money) (found : Bool) → is_shown_for (Inquiry money) (cond found None None) ≡ true
no_account money true = refl
no_account money false = refl

nothing : (act : Act) (found : Bool) → is_shown_for act (cond found None None) ≡ true
nothing act true = refl
nothing act false = refl

inquiry_by : (before : List Entry) (key : TxKey) (money : Money) (account : Option Account)
    → is_shown_for (Inquiry money) (cond (eqb (cond (is_reversed before key) 21 (account_code before (record { key = key; act = Inquiry money }) money account)) 0) (option_map (available before) account) None) ≡ true
inquiry_by before key money None = no_account money (eqb (cond (is_reversed before key) 21 14) 0)
inquiry_by before key money (Some a) =
    shown_inquiry money (available before a) (is_reversed before key) (same_currency a.currency money.currency) (is_wide (available before a)) refl

new_by : (accounts : List Account) (before : List Entry) (key : TxKey) (act : Act)
    → is_shown_for act (new_answer accounts before (record { key = key; act = act })).shown ≡ true
new_by accounts before key (Inquiry money) = inquiry_by before key money (account_of accounts money.pan)
new_by accounts before key (Debit money) = nothing (Debit money) (eqb (code_of accounts before (record { key = key; act = Debit money })) 0)
new_by accounts before key (Credit money) = nothing (Credit money) (eqb (code_of accounts before (record { key = key; act = Credit money })) 0)
new_by accounts before key (Undo original left) = nothing (Undo original left) (eqb (code_of accounts before (record { key = key; act = Undo original left })) 0)
new_by accounts before key (Complete money hold) = nothing (Complete money hold) (eqb (code_of accounts before (record { key = key; act = Complete money hold })) 0)

new_shown : (accounts : List Account) (before : List Entry) (o : Instruction) → is_shown_for o.act (new_answer accounts before o).shown ≡ true
new_shown accounts before o = new_by accounts before o.key o.act

-- ---- a repeated answer

-- each entry shows what its order may show
abbrev AreShown : List Entry → Type 0
AreShown [] = Unit {0}
AreShown (e ∷ es) = (is_shown_for e.order.act e.answer.shown ≡ true) × AreShown es

shown_push : (es : List Entry) (e : Entry) → AreShown es → is_shown_for e.order.act e.answer.shown ≡ true → AreShown (es ++ e ∷ [])
shown_push [] e shown here = (here, tt)
shown_push (x ∷ xs) e shown here = (shown.0, shown_push xs e shown.1 here)

shown_entered : (accounts : List Account) (before : List Entry) (os : List Instruction) → AreShown before → AreShown (entries_after accounts before os)
shown_entered accounts before [] shown = shown
shown_entered accounts before (o ∷ os) shown =
    shown_entered accounts (before ++ new_entry accounts before o ∷ []) os (shown_push before (new_entry accounts before o) shown (new_shown accounts before o))

inquiry_same : (a b : Act) → same_act a b ≡ true → is_inquiry_order a ≡ is_inquiry_order b
inquiry_same (Debit a) (Debit b) h = refl
inquiry_same (Credit a) (Credit b) h = refl
inquiry_same (Inquiry a) (Inquiry b) h = refl
inquiry_same (Undo a l) (Undo b n) h = refl
inquiry_same (Complete a k) (Complete b l) h = refl
inquiry_same a b h = cc

-- what one act shows another act of the kind shows
shown_along : (a b : Act) (shown : Option ℤ) → is_inquiry_order a ≡ is_inquiry_order b → is_shown_for a shown ≡ true → is_shown_for b shown ≡ true
shown_along a b None same h = refl
shown_along a b (Some z) same h = ap (λ (t : Bool). nat_le (unsigned_abs z) 999999999999 && t) (sym same) ∙ h

second : (p q : Bool) → p && q ≡ true → q ≡ true
second true q h = h
second false q h = cc

repeated_by : (e : Entry) (o : Instruction) (t : Bool) → same_order e.order o ≡ t → is_shown_for e.order.act e.answer.shown ≡ true
    → is_shown_for o.act (repeat_answer e o).shown ≡ true
repeated_by e o true same here =
    rw same (shown_along e.order.act o.act e.answer.shown (inquiry_same e.order.act o.act (second (same_key e.order.key o.key) (same_act e.order.act o.act) same)) here)
repeated_by e o false other here = rw other refl

answer_by_shown : (accounts : List Account) (journal es : List Entry) (o : Instruction) → AreShown es → is_shown_for o.act (answer_by accounts journal o (entry_at es o.key)).shown ≡ true
answer_by_shown accounts journal [] o shown = new_shown accounts journal o
answer_by_shown accounts journal (e ∷ es) o shown = by_test (same_key e.order.key o.key) (answer_by_shown accounts journal es o shown.1)
  where
    by_test : (t : Bool) → is_shown_for o.act (answer_by accounts journal o (entry_at es o.key)).shown ≡ true
        → is_shown_for o.act (answer_by accounts journal o (cond t (Some e) (entry_at es o.key))).shown ≡ true
    by_test true rest = repeated_by e o (same_order e.order o) refl shown.0
    by_test false rest = rest

pub answer-shown : (accounts : List Account) (orders : List Instruction) (o : Instruction) → is_shown_for o.act (answer_for accounts (journal_of accounts orders) o).shown ≡ true
answer-shown accounts orders o = answer_by_shown accounts (journal_of accounts orders) (journal_of accounts orders) o (shown_entered accounts [] orders tt)
