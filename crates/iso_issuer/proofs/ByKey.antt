-- The places of keys and of accounts, and one more.
use Rattle.std.proofs.Common.{◌≡◌, ℕ, Bool, true, false, cond, refl, arith, ap, sym, ◌∙◌, subst, List, [], ◌∷◌, ◌++◌, length}
use Rattle.std.specs.Prelude.{Option, Some, None, option_map}
use Rattle.std.specs.Option.{option_or}
use Rattle.std.specs.Ordering.{is_eq}
use Rattle.std.proofs.lemmas.Grind.{common_steps}
use Rattle.std.proofs.lemmas.List.Folds.{find-append}
use Rattle.iso_order.specs.declared.key.TxKey.{TxKey}
use Rattle.iso_order.specs.Pan.{AccountNumber}
use Rattle.iso_order.specs.Key.{same_key}
use Rattle.iso_order.specs.Order.{same_pan}
use Rattle.iso_issuer.specs.declared.account.Account.{Account}
use Rattle.iso_issuer.specs.declared.balances.Balance.{Balance}
use Rattle.iso_issuer.specs.declared.journal.Entry.{Entry}
use Rattle.iso_issuer.specs.Account.{account_of}
use Rattle.iso_issuer.specs.Effect.{is_key}
use Rattle.iso_issuer.specs.Journal.{entry_at, undone_key, left_by, left_at, reversal_of}
use Rattle.iso_issuer.specs.Balances.{accounts_of, balance_at}
use Rattle.iso_issuer.specs.Index.{key_cmp, place_of, pan_cmp, account_place}
use Rattle.iso_issuer.proofs.Keys.{same_pan_is}
use Rattle.iso_issuer.proofs.Places.{place-push, none_from, found-map}

-- keys tie in their order where they are the same
pub key_tied : (k q : TxKey) → is_eq (key_cmp k q) ≡ same_key k q
key_tied k q = grind (arith, common_steps)

-- account numbers tie in their order where they are the same
pub pan_tied : (p q : AccountNumber) → is_eq (pan_cmp p q) ≡ same_pan p q
pan_tied p q = grind (arith, common_steps)

-- a key of no entry has no place
pub place_of-none : (entries : List Entry) (k : TxKey) → entry_at entries k ≡ None → place_of entries k ≡ None
place_of-none entries k none = none_from (λ x. same_key x.order.key k) 0 entries none

-- the first reversal of a key, after one entry more
pub reversal-push : (es : List Entry) (e : Entry) (k : TxKey) →
    reversal_of (es ++ e ∷ []) k ≡ option_or (reversal_of es k) (cond (is_key (undone_key e.order.act) k) (Some e) None)
reversal-push es e k = find-append (λ (r : Entry). is_key (undone_key r.order.act) k) es (e ∷ [])

-- what the first reversal of a key leaves, after one entry more
pub left-push : (es : List Entry) (e : Entry) (k : TxKey) →
    left_at (es ++ e ∷ []) k ≡ option_or (left_at es k) (cond (is_key (undone_key e.order.act) k) (Some (left_by e.order.act)) None)
left-push es e k = ap (option_map (λ (r : Entry). left_by r.order.act)) (reversal-push es e k) ∙ either (reversal_of es k) (is_key (undone_key e.order.act) k)
  where
    either : (o : Option Entry) (b : Bool) → option_map (λ (r : Entry). left_by r.order.act) (option_or o (cond b (Some e) None))
        ≡ option_or (option_map (λ (r : Entry). left_by r.order.act) o) (cond b (Some (left_by e.order.act)) None)
    either None true = refl
    either None false = refl
    either (Some x) b = refl

-- an entry that names another key leaves it
pub left-kept : (es : List Entry) (e : Entry) (k : TxKey) → is_key (undone_key e.order.act) k ≡ false → left_at (es ++ e ∷ []) k ≡ left_at es k
left-kept es e k other =
    left-push es e k ∙ ap (λ b. option_or (left_at es k) (cond b (Some (left_by e.order.act)) None)) other ∙ or_none (left_at es k)
  where
    or_none : (o : Option ℕ) → option_or o None ≡ o
    or_none None = refl
    or_none (Some x) = refl

-- the rows, after an account more of a new number
pub account_place-push : (accounts : List Account) (a : Account) (q : AccountNumber) → account_of accounts a.pan ≡ None →
    account_place (accounts ++ a ∷ []) q ≡ cond (is_eq (pan_cmp a.pan q)) (Some (length accounts)) (account_place accounts q)
account_place-push accounts a q new =
    place-push (λ x. same_pan x.pan q) accounts a (λ h. subst (λ p. account_of accounts p ≡ None) (same_pan_is a.pan q h) new)
    ∙ ap (λ b. cond b (Some (length accounts)) (account_place accounts q)) (sym (pan_tied a.pan q))

-- the account of a number is that of its balance
pub account-at : (balances : List Balance) (pan : AccountNumber) → account_of (accounts_of balances) pan ≡ option_map (λ b. b.account) (balance_at balances pan)
account-at balances pan = found-map (λ a. same_pan a.pan pan) (λ (b : Balance). b.account) balances
