-- A journal that goes on.
use Rattle.std.proofs.Common.{◌≡◌, ◌<◌, ◌≤◌, ℕ, ◌+◌, ◌-◌, Bool, true, false, refl, arith, ap, sym, ◌∙◌, subst, List, [], ◌∷◌, ◌++◌, length, take, map, cond, append_assoc, append-nil, length-append}
use Rattle.std.specs.Prelude.{Option, Some, None, is_some, find, filter}
use Rattle.std.specs.Option.{option_or}
use Rattle.std.proofs.Math.Seq.{take-append_seam, take-append-add}
use Rattle.std.proofs.lemmas.List.{length-map}
use Rattle.std.proofs.lemmas.List.Elements.{filter-append}
use Rattle.std.proofs.lemmas.List.Folds.{find-append}
use Rattle.iso_order.specs.declared.key.TxKey.{TxKey}
use Rattle.iso_order.specs.Key.{same_key}
use Rattle.iso_order.specs.Order.{Instruction, same_order}
use Rattle.iso_order.specs.Outcome.{Outcome, code_alone}
use Rattle.iso_issuer.specs.declared.account.Account.{Account}
use Rattle.iso_issuer.specs.declared.journal.Entry.{Entry}
use Rattle.iso_issuer.specs.Journal.{firsts, is_entered, entry_at, HasDistinctKeys}
use Rattle.iso_issuer.specs.Decision.{entries_after, new_entry, journal_of, repeat_answer, answer_for, answer_by}
use Rattle.iso_issuer.specs.Books.{Books, journal, books_with, IsFullFor}
use Rattle.iso_issuer.specs.Laws.{books_after}
use Rattle.iso_issuer.proofs.Keys.{same_key_is, same_key_self}
use Rattle.iso_issuer.proofs.Firsts.{is_other, firsts-new, firsts-known, firsts-distinct, distinct-push}
use Rattle.iso_issuer.proofs.Touched.{found-key}
use Rattle.iso_issuer.proofs.Entries.{entered-push, orders-entered, entered-found, full-new}

-- ---- the entries that there are

-- what is found stays found
pub find-more : {X : Type 0} (t : X → Bool) (xs ys : List X) (x : X) → find t xs ≡ Some x → find t (xs ++ ys) ≡ Some x
find-more t xs ys x h = find-append t xs ys ∙ ap (λ f. option_or f (find t ys)) h

find-last : {X : Type 0} (t : X → Bool) (xs : List X) (x : X) → find t xs ≡ None → t x ≡ true → find t (xs ++ x ∷ []) ≡ Some x
find-last t [] x none here = ap (λ (b : Bool). cond b (Some x) None) here
find-last t (y ∷ xs) x none here = by_test (t y) none (find-last t xs x)
  where
    by_test : (b : Bool) → cond b (Some y) (find t xs) ≡ None → (find t xs ≡ None → t x ≡ true → find t (xs ++ x ∷ []) ≡ Some x) → cond b (Some y) (find t (xs ++ x ∷ [])) ≡ Some x
    by_test true e rest = cc
    by_test false e rest = rest e here

entered-append : (accounts : List Account) (es : List Entry) (os ps : List Instruction) → entries_after accounts es (os ++ ps) ≡ entries_after accounts (entries_after accounts es os) ps
entered-append accounts es [] ps = refl
entered-append accounts es (o ∷ os) ps = entered-append accounts (es ++ new_entry accounts es o ∷ []) os ps

-- entering orders leaves the entries that there are in front
pub entered-begins : (accounts : List Account) (es : List Entry) (os : List Instruction) → (more : List Entry) × (entries_after accounts es os ≡ es ++ more)
entered-begins accounts es [] = ([], sym (append-nil es))
entered-begins accounts es (o ∷ os) =
    let rest = entered-begins accounts (es ++ new_entry accounts es o ∷ []) os in
    (new_entry accounts es o ∷ rest.0, rest.1 ∙ append_assoc es (new_entry accounts es o ∷ []) rest.0)

pub journal-begins : (accounts : List Account) (orders more : List Instruction) → (later : List Entry) × (journal_of accounts (orders ++ more) ≡ journal_of accounts orders ++ later)
journal-begins accounts orders more =
    let rest = entered-begins accounts (journal_of accounts orders) more in
    (rest.0, entered-append accounts [] orders more ∙ rest.1)

size-of : (accounts : List Account) (orders : List Instruction) → length (journal_of accounts orders) ≡ length orders
size-of accounts orders = sym (length-map (journal_of accounts orders) (λ (e : Entry). e.order)) ∙ ap length (orders-entered accounts [] orders)

pub journals-go-on : (accounts : List Account) (orders more : List Instruction) → take (length orders) (journal_of accounts (orders ++ more)) ≡ journal_of accounts orders
journals-go-on accounts orders more =
    let rest = journal-begins accounts orders more in
    ap (take (length orders)) rest.1 ∙ ap (λ n. take n (journal_of accounts orders ++ rest.0)) (sym (size-of accounts orders))
    ∙ take-append_seam (journal_of accounts orders) rest.0

pub answers-kept : (accounts : List Account) (orders more : List Instruction) (key : TxKey) (e : Entry) →
    entry_at (journal_of accounts orders) key ≡ Some e → entry_at (journal_of accounts (orders ++ more)) key ≡ Some e
answers-kept accounts orders more key e h =
    let rest = journal-begins accounts orders more in
    ap (λ (es : List Entry). entry_at es key) rest.1 ∙ find-more (λ (x : Entry). same_key x.order.key key) (journal_of accounts orders) rest.0 e h

-- ---- the orders that are kept

firsts-begin : (xs ys : List Instruction) → (more : List Instruction) × (firsts (xs ++ ys) ≡ firsts xs ++ more)
firsts-begin [] ys = (firsts ys, refl)
firsts-begin (x ∷ xs) ys =
    let rest = firsts-begin xs ys in
    (filter (is_other x.key) rest.0, ap (λ (l : List Instruction). x ∷ filter (is_other x.key) l) rest.1 ∙ ap (λ (l : List Instruction). x ∷ l) (filter-append (is_other x.key) (firsts xs) rest.0))

-- what is kept of orders of distinct keys, no more than the limit, and of others after them, begins with all the former
kept-begin : (limit : ℕ) (xs ys : List Instruction) → HasDistinctKeys xs → length xs ≤ limit → (more : List Instruction) × (take limit (firsts (xs ++ ys)) ≡ xs ++ more)
kept-begin limit xs ys distinct few =
    let rest = firsts-begin xs ys in
    let room : limit ≡ length xs + (limit - length xs) = omega arith in (
      take (limit - length xs) rest.0,
      ap (take limit) (rest.1 ∙ ap (λ (l : List Instruction). l ++ rest.0) (firsts-distinct xs distinct))
          ∙ ap (λ n. take n (xs ++ rest.0)) room ∙ take-append-add xs rest.0 (limit - length xs),
    )

-- ---- the answer to a repeat

-- the answer for an order whose key has an entry, in a journal that goes on
answer-stays : (accounts : List Account) (orders more : List Instruction) (o : Instruction) (e : Entry) → entry_at (journal_of accounts orders) o.key ≡ Some e
    → answer_for accounts (journal_of accounts (orders ++ more)) o ≡ repeat_answer e o
answer-stays accounts orders more o e found = ap (answer_by accounts (journal_of accounts (orders ++ more)) o) (answers-kept accounts orders more o.key e found)

answer-after : (b : Books) (o : Instruction) (since : List Instruction) (e : Entry) → HasDistinctKeys b.orders → length b.orders ≤ b.limit
    → entry_at (journal b) o.key ≡ Some e → answer_for b.accounts (journal (books_after b since)) o ≡ repeat_answer e o
answer-after b o since e distinct few found =
    let kept = kept-begin b.limit b.orders since distinct few in
    ap (λ (l : List Instruction). answer_for b.accounts (journal_of b.accounts l) o) kept.1 ∙ answer-stays b.accounts b.orders kept.0 o e found

-- the entry of an order that was just entered
found-new : (accounts : List Account) (orders : List Instruction) (o : Instruction) → entry_at (journal_of accounts orders) o.key ≡ None
    → entry_at (journal_of accounts (orders ++ o ∷ [])) o.key ≡ Some (new_entry accounts (journal_of accounts orders) o)
found-new accounts orders o none =
    ap (λ (es : List Entry). entry_at es o.key) (entered-push accounts [] orders o)
    ∙ find-last (λ (x : Entry). same_key x.order.key o.key) (journal_of accounts orders) (new_entry accounts (journal_of accounts orders) o) none (same_key_self o.key)

unknown : (accounts : List Account) (orders : List Instruction) (k : TxKey) → entry_at (journal_of accounts orders) k ≡ None → is_entered orders k ≡ false
unknown accounts orders k none =
    ap (λ (l : List Instruction). is_entered l k) (sym (orders-entered accounts [] orders)) ∙ entered-found (journal_of accounts orders) k ∙ ap is_some none

-- an order is the same order as itself
abbrev pub SameSelf : Type 0
SameSelf = (o : Instruction) → same_order o o ≡ true

again : (e : Entry) (o : Instruction) → e.order ≡ o → SameSelf → repeat_answer e o ≡ e.answer
again e o same self =
    let told : same_order e.order o ≡ true = ap (λ (x : Instruction). same_order x o) same ∙ self o in
    ap (λ (b : Bool). cond b e.answer (code_alone 94)) told

pub repeats-answered : SameSelf → (b : Books) (o : Instruction) (between : List Instruction) →
    HasDistinctKeys b.orders → length b.orders ≤ b.limit → (IsFullFor b o.key → ⊥) →
    answer_for b.accounts (journal (books_after b (o ∷ between))) o ≡ answer_for b.accounts (journal b) o
repeats-answered self b o between distinct few room = by_entry (entry_at (journal b) o.key) refl
  where
    by_entry : (entry : Option Entry) → entry_at (journal b) o.key ≡ entry → answer_for b.accounts (journal (books_after b (o ∷ between))) o ≡ answer_for b.accounts (journal b) o
    by_entry (Some e) found = answer-after b o (o ∷ between) e distinct few found ∙ sym (ap (answer_by b.accounts (journal b) o) found)
    by_entry None none =
        let new = unknown b.accounts b.orders o.key none in
        let below : length b.orders < b.limit = omega (arith, λ (e : length b.orders ≡ b.limit). room (full-new b o.key new (omega (arith, e)))) in
        let with = record b { orders = b.orders ++ o ∷ [] } in
        let after : books_after b (o ∷ between) ≡ books_after with between =
        ap (λ (l : List Instruction). record b { orders = take b.limit (firsts l) }) (sym (append_assoc b.orders (o ∷ []) between)) in
        ap (λ (x : Books). answer_for b.accounts (journal x) o) after
        ∙ answer-after with o between (new_entry b.accounts (journal b) o) (distinct-push b.orders o distinct new) (omega (arith, length-append b.orders (o ∷ [])))
        (found-new b.accounts b.orders o none)
        ∙ again (new_entry b.accounts (journal b) o) o refl self
        ∙ sym (ap (answer_by b.accounts (journal b) o) none)

pub entries-answer : SameSelf → (b : Books) (o : Instruction) (answer : Outcome) (since : List Instruction) →
    HasDistinctKeys b.orders → length b.orders ≤ b.limit → entry_at (journal b) o.key ≡ Some (record { order = o; answer = answer }) →
    answer_for b.accounts (journal (books_after b since)) o ≡ answer
entries-answer self b o answer since distinct few found =
    let e : Entry = record { order = o; answer = answer } in
    answer-after b o since e distinct few found ∙ again e o refl self

-- ---- one order more

pub orders-of : (accounts : List Account) (orders : List Instruction) → map (λ e. e.order) (journal_of accounts orders) ≡ orders
orders-of accounts orders = orders-entered accounts [] orders

pub entered-has : (accounts : List Account) (orders : List Instruction) (key : TxKey) → is_entered orders key ≡ is_some (entry_at (journal_of accounts orders) key)
entered-has accounts orders key =
    ap (λ (l : List Instruction). is_entered l key) (sym (orders-of accounts orders)) ∙ entered-found (journal_of accounts orders) key

pub journals-grow : (accounts : List Account) (orders : List Instruction) (o : Instruction) →
    journal_of accounts (orders ++ o ∷ []) ≡ journal_of accounts orders ++ new_entry accounts (journal_of accounts orders) o ∷ []
journals-grow accounts orders o = entered-push accounts [] orders o

-- the orders after one more, whose key is there or is new
known : (orders : List Instruction) (o : Instruction) → HasDistinctKeys orders → is_entered orders o.key ≡ true → firsts (orders ++ o ∷ []) ≡ orders
known orders o distinct there = firsts-known orders o there ∙ firsts-distinct orders distinct

new : (orders : List Instruction) (o : Instruction) → HasDistinctKeys orders → is_entered orders o.key ≡ false → firsts (orders ++ o ∷ []) ≡ orders ++ o ∷ []
new orders o distinct none = firsts-new orders o none ∙ ap (λ (l : List Instruction). l ++ o ∷ []) (firsts-distinct orders distinct)

pub entering-known : (b : Books) (o : Instruction) → HasDistinctKeys b.orders → is_entered b.orders o.key ≡ true → books_with b o ≡ b
entering-known b o distinct there = ap (λ (l : List Instruction). record b { orders = l }) (known b.orders o distinct there)

pub entering-new : (b : Books) (o : Instruction) → HasDistinctKeys b.orders → is_entered b.orders o.key ≡ false → books_with b o ≡ record b { orders = b.orders ++ o ∷ [] }
entering-new b o distinct none = ap (λ (l : List Instruction). record b { orders = l }) (new b.orders o distinct none)

pub entering-distinct : (b : Books) (o : Instruction) → HasDistinctKeys b.orders → HasDistinctKeys (books_with b o).orders
entering-distinct b o distinct = by_test (is_entered b.orders o.key) refl
  where
    by_test : (t : Bool) → is_entered b.orders o.key ≡ t → HasDistinctKeys (firsts (b.orders ++ o ∷ []))
    by_test true there = subst HasDistinctKeys (sym (known b.orders o distinct there)) distinct
    by_test false none = subst HasDistinctKeys (sym (new b.orders o distinct none)) (distinct-push b.orders o distinct none)

-- ---- what is found under a key

-- it has the key
pub key-found : (j : List Entry) (key : TxKey) (e : Entry) → entry_at j key ≡ Some e → e.order.key ≡ key
key-found j key e h = sym (same_key_is key e.order.key (found-key j key e h))

pub found-stays : (j more : List Entry) (key : TxKey) (e : Entry) → entry_at j key ≡ Some e → entry_at (j ++ more) key ≡ Some e
found-stays j more key e h = find-more (λ (x : Entry). same_key x.order.key key) j more e h

pub new-found : (j : List Entry) (e : Entry) → entry_at j e.order.key ≡ None → entry_at (j ++ e ∷ []) e.order.key ≡ Some e
new-found j e none = find-last (λ (x : Entry). same_key x.order.key e.order.key) j e none (same_key_self e.order.key)

-- the answer for an order that is new, or that was entered as it is
pub answers-entered : SameSelf → (b : Books) (o : Instruction) → HasDistinctKeys b.orders → ((e : Entry) → entry_at (journal b) o.key ≡ Some e → e.order ≡ o) →
    entry_at (journal (books_with b o)) o.key ≡ Some (record { order = o; answer = answer_for b.accounts (journal b) o })
answers-entered self b o distinct as_it_is = by_entry (entry_at (journal b) o.key) refl
  where
    at : List Instruction → Option Entry
    at orders = entry_at (journal_of b.accounts orders) o.key

    by_entry : (entry : Option Entry) → entry_at (journal b) o.key ≡ entry → at (firsts (b.orders ++ o ∷ [])) ≡ Some (record { order = o; answer = answer_by b.accounts (journal b) o entry })
    by_entry None none =
        ap at (new b.orders o distinct (unknown b.accounts b.orders o.key none)) ∙ found-new b.accounts b.orders o none
    by_entry (Some e) found =
        let there : is_entered b.orders o.key ≡ true = entered-has b.accounts b.orders o.key ∙ ap is_some found in
        let same = as_it_is e found in
        let whole : e ≡ record { order = o; answer = e.answer } = ap (λ (x : Instruction). record e { order = x }) same in
        ap at (known b.orders o distinct there) ∙ found ∙ ap Some whole
        ∙ ap (λ (a : Outcome). Some (record { order = o; answer = a })) (sym (again e o same self))
