-- What an order found, once it is entered.
use Rattle.std.proofs.Common.{◌≡◌, ℕ, true, cond, refl, ap, sym, ◌∙◌, subst, List, [], ◌∷◌, ◌++◌}
use Rattle.std.specs.Prelude.{Option, Some, None, option_and_then, option_map}
use Rattle.std.specs.Option.{option_or}
use Rattle.iso_order.specs.declared.key.TxKey.{TxKey}
use Rattle.iso_order.specs.declared.act.Act.{Act}
use Rattle.iso_order.specs.declared.act.Act.TheVariants.{Debit, Credit, Inquiry, Undo, Complete}
use Rattle.iso_order.specs.declared.act.Money.{Money}
use Rattle.iso_order.specs.Order.{Instruction, money_of}
use Rattle.iso_issuer.specs.declared.journal.Entry.{Entry}
use Rattle.iso_order.specs.Pan.{AccountNumber}
use Rattle.iso_issuer.specs.declared.effect.Effect.{Effect}
use Rattle.iso_issuer.specs.declared.found.Touched.{Touched}
use Rattle.iso_issuer.specs.declared.found.Found.{Found}
use Rattle.iso_issuer.specs.Effect.{effect_by, is_key}
use Rattle.iso_issuer.specs.Journal.{entry_at, undone_key, left_by, left_at, weight}
use Rattle.iso_issuer.specs.Found.{weight_at, reversed_by, released_by, ended_key, touched_at, entry_in, weight_in, amount_left, IsFoundFor, WasFoundFor}
use Rattle.iso_issuer.specs.Index.{dropped_of_entry, dropped_at_key, dropped_by_act}
use Rattle.iso_issuer.proofs.Keys.{same_key_is}
use Rattle.iso_issuer.proofs.ByKey.{left-push, left-kept}
use Rattle.iso_issuer.proofs.Sums.{AreApart}
use Rattle.iso_issuer.proofs.Touched.{found-key}

-- ---- which acts are no reversal

-- what is about money
pub money-kept : (act : Act) (m : Money) → Some m ≡ money_of act → undone_key act ≡ None
money-kept (Debit m) n h = refl
money-kept (Credit m) n h = refl
money-kept (Inquiry m) n h = refl
money-kept (Undo original left) n h = cc
money-kept (Complete m hold) n h = refl

-- the money of an order that has an effect, on the same account
pub effect-money : (k : TxKey) (act : Act) (f : Effect) → effect_by k act ≡ Some f → (m : Money) × (Some m ≡ money_of act) × (m.pan ≡ f.pan)
effect-money k (Debit m) f h = (m, refl, cc)
effect-money k (Credit m) f h = (m, refl, cc)
effect-money k (Inquiry m) f h = cc
effect-money k (Undo original left) f h = cc
effect-money k (Complete m hold) f h = (m, refl, cc)

-- the place of the account of an effect
pub place-told : (x : Option Effect) (pan : AccountNumber) (place : Option ℕ) (rows : AccountNumber → Option ℕ) → Some pan ≡ option_map (λ f. f.pan) x →
    ((f : Effect) → x ≡ Some f → place ≡ rows f.pan) → place ≡ rows pan
place-told None pan place rows same told = cc
place-told (Some f) pan place rows same told =
    let is : f.pan ≡ pan = cc in
    told f refl ∙ ap rows is

-- ---- what was found

-- the entry that is touched, and its weight
pub entry-touched : (es : List Entry) (o : Option Entry) → entry_in (touched_at es o) ≡ o
entry-touched es None = refl
entry-touched es (Some e) = refl

pub weight-touched : (es : List Entry) (o : Option Entry) → weight_in (touched_at es o) ≡ weight_at es o
weight-touched es None = refl
weight-touched es (Some e) = refl

abbrev touch : List Entry → Entry → Touched
touch es e = record { entry = e; left = left_at es e.order.key; weight = weight es e }

-- where something is touched, it is an entry
touched-of : (P : Touched → Type 0) (es : List Entry) (o : Option Entry) (t : Touched) → touched_at es o ≡ Some t → ((e : Entry) → o ≡ Some e → P (touch es e)) → P t
touched-of P es None t h make = cc
touched-of P es (Some e) t h make =
    let same : touch es e ≡ t = cc in
    subst P same (make e refl)

found-under : (es : List Entry) (k : Option TxKey) (e : Entry) → option_and_then (entry_at es) k ≡ Some e → is_key k e.order.key ≡ true
found-under es None e h = cc
found-under es (Some k) e h = found-key es k e h

-- the hold that the entry no longer completes
pub dropped-touched : (es : List Entry) (o : Instruction) (original : TxKey) (left : ℕ) (t : Touched) → o.act ≡ Undo original left → Some t ≡ touched_at es (reversed_by es o) →
    dropped_of_entry t.left left t.entry ≡ dropped_by_act es o.act
dropped-touched es o original left t act found =
    touched-of (λ t. dropped_of_entry t.left left t.entry ≡ dropped_at_key es original left (entry_at es original)) es (entry_at es original) t
    (ap (λ a. touched_at es (option_and_then (entry_at es) (undone_key a))) (sym act) ∙ sym found)
    (λ e h. ap (λ k. dropped_of_entry (left_at es k) left e) (sym (same_key_is original e.order.key (found-key es original e h))) ∙ ap (dropped_at_key es original left) (sym h))
    ∙ ap (dropped_by_act es) (sym act)

-- a reversal leaves what it leaves of the entry that it names, unless an earlier one did
left-leaves : (es : List Entry) (e : Entry) (k : TxKey) → is_key (undone_key e.order.act) k ≡ true → option_or (left_at es k) (amount_left e.order.act) ≡ left_at (es ++ e ∷ []) k
left-leaves es e k named = by_act e.order.act named ∙ sym (left-push es e k)
  where
    by_act : (a : Act) → is_key (undone_key a) k ≡ true → option_or (left_at es k) (amount_left a) ≡ option_or (left_at es k) (cond (is_key (undone_key a) k) (Some (left_by a)) None)
    by_act (Debit m) h = cc
    by_act (Credit m) h = cc
    by_act (Inquiry m) h = cc
    by_act (Undo original left) h = ap (λ b. option_or (left_at es k) (cond b (Some left) None)) (sym h)
    by_act (Complete m hold) h = cc

-- what was found of an order is so once it is entered
pub found-entered : (es : List Entry) (e : Entry) (found : Found) → IsFoundFor es e.order found → AreApart es e.order → WasFoundFor (es ++ e ∷ []) e.order found
found-entered es e found is apart = record {
  own = λ none. is.own none ∙ sym (left-kept es e e.order.key (ap (λ k. is_key k e.order.key) none));
  reversed = λ t h.
      touched-of (λ t. option_or t.left (amount_left e.order.act) ≡ left_at (es ++ e ∷ []) t.entry.order.key) es (reversed_by es e.order) t (sym is.reversed ∙ h)
      (λ r there. left-leaves es e r.order.key (found-under es (undone_key e.order.act) r there));
  released = λ t h.
      touched-of (λ t. t.left ≡ left_at (es ++ e ∷ []) t.entry.order.key) es (released_by es e.order) t (sym is.released ∙ h)
      (λ r there. sym (left-kept es e r.order.key (apart r.order.key (found-under es (ended_key es e.order) r there))));
}
