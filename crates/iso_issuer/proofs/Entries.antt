-- The entries of a journal, and one more.
use Rattle.std.proofs.Common.{◌≡◌, ℕ, Bool, true, false, refl, arith, ap, sym, ◌∙◌, List, [], ◌∷◌, ◌++◌, length, ◌<◌, ◌≤◌, append_assoc, cond, length-append}
use Rattle.std.specs.Prelude.{IsTrue, ◌||◌, ◌&&◌, not, nat_le, map, Some, None, is_some}
use Rattle.std.proofs.lemmas.Bool.Decides.{nat_tests}
use Rattle.std.proofs.lemmas.List.{map-append, append-nil}
use Rattle.iso_order.specs.declared.key.TxKey.{TxKey}
use Rattle.iso_order.specs.Key.{same_key}
use Rattle.iso_order.specs.Order.{Instruction}
use Rattle.iso_issuer.specs.declared.account.Account.{Account}
use Rattle.iso_issuer.specs.declared.journal.Entry.{Entry}
use Rattle.iso_issuer.specs.Journal.{is_entered, entry_at}
use Rattle.iso_issuer.specs.Decision.{entries_after, new_entry}
use Rattle.iso_issuer.specs.Books.{Books, is_full}
use Rattle.iso_issuer.specs.Index.{IsKept}
use Rattle.iso_issuer.proofs.Firsts.{distinct-push}

-- an order more is one entry more, decided on those before it
pub entered-push : (accounts : List Account) (before : List Entry) (os : List Instruction) (o : Instruction) →
    entries_after accounts before (os ++ o ∷ []) ≡ entries_after accounts before os ++ new_entry accounts (entries_after accounts before os) o ∷ []
entered-push accounts before [] o = refl
entered-push accounts before (p ∷ ps) o = entered-push accounts (before ++ new_entry accounts before p ∷ []) ps o

-- the entries are of the orders
pub orders-entered : (accounts : List Account) (before : List Entry) (os : List Instruction) →
    map (λ e. e.order) (entries_after accounts before os) ≡ map (λ e. e.order) before ++ os
orders-entered accounts before [] = sym (append-nil _)
orders-entered accounts before (o ∷ os) =
    orders-entered accounts (before ++ new_entry accounts before o ∷ []) os
    ∙ ap (λ xs. xs ++ os) (map-append (λ e. e.order) before (new_entry accounts before o ∷ []))
    ∙ append_assoc (map (λ e. e.order) before) (o ∷ []) os

-- a key is entered where it has an entry
pub entered-found : (es : List Entry) (k : TxKey) → is_entered (map (λ e. e.order) es) k ≡ is_some (entry_at es k)
entered-found [] k = refl
entered-found (e ∷ es) k = by_test (same_key e.order.key k) (entered-found es k)
  where
    by_test : (b : Bool) → is_entered (map (λ e. e.order) es) k ≡ is_some (entry_at es k) → (b || is_entered (map (λ e. e.order) es) k) ≡ is_some (cond b (Some e) (entry_at es k))
    by_test true known = refl
    by_test false known = known

-- one entry more is kept
pub kept-push : (accounts : List Account) (limit : ℕ) (es : List Entry) (o : Instruction) →
    IsKept accounts limit es → length es < limit → entry_at es o.key ≡ None → IsKept accounts limit (es ++ new_entry accounts es o ∷ [])
kept-push accounts limit es o kept below new =
    let orders : map (λ e. e.order) (es ++ new_entry accounts es o ∷ []) ≡ map (λ e. e.order) es ++ o ∷ [] = map-append (λ e. e.order) es (new_entry accounts es o ∷ []) in
    let is_new : is_entered (map (λ e. e.order) es) o.key ≡ false = entered-found es o.key ∙ ap is_some new in
    record {
      few = omega (arith, length-append es (new_entry accounts es o ∷ []));
      limited = kept.limited;
      decided =
          rw orders (
          ap (λ j. j ++ new_entry accounts j o ∷ []) kept.decided
          ∙ sym (entered-push accounts [] (map (λ e. e.order) es) o));
      distinct = rw orders (distinct-push (map (λ e. e.order) es) o kept.distinct is_new);
    }

-- the books are full for a new key where they are at their limit, and for no other key
pub full-new : (b : Books) (k : TxKey) → is_entered b.orders k ≡ false → b.limit ≤ length b.orders → is_full b k ≡ true
full-new b k new at_limit = ap (λ t. not t && nat_le b.limit (length b.orders)) new ∙ at_most b.limit (length b.orders) at_limit
  where
    at_most : (n m : ℕ) → n ≤ m → nat_le n m ≡ true
    at_most n m h = grind (arith, nat_tests)

pub full-known : (b : Books) (k : TxKey) → is_entered b.orders k ≡ true → is_full b k ≡ true → ⊥
full-known b k known full = apart (is_full b k) (ap (λ t. not t && nat_le b.limit (length b.orders)) known) full
  where
    apart : (t : Bool) → t ≡ false → t ≡ true → ⊥
    apart true e h = cc
    apart false e h = cc

-- a test that is false is not true
pub never : (b : Bool) → b ≡ false → IsTrue b → ⊥
never true e h = cc
never false e h = cc
