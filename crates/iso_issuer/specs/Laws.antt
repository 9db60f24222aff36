-- What holds of every journal of orders: what is kept, what goes on, and what one order more brings.
use Rattle.std.specs.Prelude.{◌≡◌, ◌≤◌, ℕ, true, false, List, [], ◌++◌, ◌∷◌, length, map, take, Some, None, is_some}
use Rattle.iso_order.specs.declared.key.TxKey.{TxKey}
use Rattle.iso_order.specs.Order.{Instruction}
use Rattle.iso_order.specs.Outcome.{Outcome}
use Rattle.iso_issuer.specs.declared.account.Account.{Account}
use Rattle.iso_issuer.specs.declared.journal.Entry.{Entry}
use Rattle.iso_issuer.specs.Journal.{firsts, is_entered, entry_at, HasDistinctKeys}
use Rattle.iso_issuer.specs.Decision.{new_entry, journal_of, answer_for}
use Rattle.iso_issuer.specs.Books.{Books, journal, books_with, IsFullFor}

-- ---- the first order of each key, up to a limit

-- what was kept of the earlier orders stands for all of them, whatever orders follow
abbrev pub FirstsGoOn : Type 0
FirstsGoOn =
    (limit : ℕ) (earlier later : List Instruction) →
    take limit (firsts (take limit (firsts earlier) ++ later))
    ≡ take limit (firsts (earlier ++ later))

-- no more orders than the limit, of distinct keys, are kept as they are
abbrev pub FirstsStay : Type 0
FirstsStay = (limit : ℕ) (orders : List Instruction) → HasDistinctKeys orders
    → length orders ≤ limit → take limit (firsts orders) ≡ orders

-- ---- journals that go on

-- the entries of the earlier orders come first, and are as they were
abbrev pub JournalsGoOn : Type 0
JournalsGoOn =
    (accounts : List Account) (orders more : List Instruction) →
    take (length orders) (journal_of accounts (orders ++ more)) ≡ journal_of accounts orders

-- the entry of a key stays, with its answer
abbrev pub AnswersAreKept : Type 0
AnswersAreKept =
    (accounts : List Account) (orders more : List Instruction) (key : TxKey) (e : Entry) →
    entry_at (journal_of accounts orders) key ≡ Some e →
    entry_at (journal_of accounts (orders ++ more)) key ≡ Some e

-- the books once these orders came too
abbrev pub books_after : Books → List Instruction → Books
books_after b orders = record b { orders = take b.limit (firsts (b.orders ++ orders)) }

-- an order that is answered gets that answer again, whatever came in between
abbrev pub RepeatsAreAnswered : Type 0
RepeatsAreAnswered =
    (b : Books) (o : Instruction) (between : List Instruction) →
    HasDistinctKeys b.orders → length b.orders ≤ b.limit → (IsFullFor b o.key → ⊥) →
    answer_for b.accounts (journal (books_after b (o ∷ between))) o
    ≡ answer_for b.accounts (journal b) o

-- an order that is entered with an answer gets it, whatever came since
abbrev pub EntriesAnswer : Type 0
EntriesAnswer =
    (b : Books) (o : Instruction) (answer : Outcome) (since : List Instruction) →
    HasDistinctKeys b.orders → length b.orders ≤ b.limit →
    entry_at (journal b) o.key ≡ Some (record { order = o; answer = answer }) →
    answer_for b.accounts (journal (books_after b since)) o ≡ answer

-- ---- one order more

-- the entries are of the orders, in their order
abbrev pub EntriesAreOfOrders : Type 0
EntriesAreOfOrders = (accounts : List Account) (orders : List Instruction)
    → map (λ e. e.order) (journal_of accounts orders) ≡ orders

-- a key is entered where it has an entry
abbrev pub EnteredHasEntry : Type 0
EnteredHasEntry =
    (accounts : List Account) (orders : List Instruction) (key : TxKey)
    → is_entered orders key ≡ is_some (entry_at (journal_of accounts orders) key)

-- an order more is an entry more, decided on those before it
abbrev pub JournalsGrow : Type 0
JournalsGrow =
    (accounts : List Account) (orders : List Instruction) (o : Instruction) →
    journal_of accounts (orders ++ o ∷ [])
    ≡ journal_of accounts orders ++ new_entry accounts (journal_of accounts orders) o ∷ []

-- what is found under a key has it
abbrev pub FoundHasKey : Type 0
FoundHasKey = (journal : List Entry) (key : TxKey) (e : Entry) → entry_at journal key ≡ Some e
    → e.order.key ≡ key

-- it is found too where entries follow
abbrev pub FoundStays : Type 0
FoundStays = (journal more : List Entry) (key : TxKey) (e : Entry) → entry_at journal key ≡ Some e
    → entry_at (journal ++ more) key ≡ Some e

-- an entry of a new key is found once it is there
abbrev pub NewIsFound : Type 0
NewIsFound = (journal : List Entry) (e : Entry) → entry_at journal e.order.key ≡ None
    → entry_at (journal ++ e ∷ []) e.order.key ≡ Some e

-- an order whose key is there changes no books
abbrev pub KnownChangesNothing : Type 0
KnownChangesNothing = (b : Books) (o : Instruction) → HasDistinctKeys b.orders
    → is_entered b.orders o.key ≡ true → books_with b o ≡ b

-- one whose key is new comes last
abbrev pub NewComesLast : Type 0
NewComesLast =
    (b : Books) (o : Instruction) → HasDistinctKeys b.orders → is_entered b.orders o.key ≡ false →
    books_with b o ≡ record b { orders = b.orders ++ o ∷ [] }

-- either way the keys stay distinct
abbrev pub KeysStayDistinct : Type 0
KeysStayDistinct = (b : Books) (o : Instruction) → HasDistinctKeys b.orders
    → HasDistinctKeys (books_with b o).orders

-- the key of an order that is new, or that was entered as it is, has an entry with the answer for the order
abbrev pub AnswersAreEntered : Type 0
AnswersAreEntered =
    (b : Books) (o : Instruction) → HasDistinctKeys b.orders →
    ((e : Entry) → entry_at (journal b) o.key ≡ Some e → e.order ≡ o) →
    entry_at (journal (books_with b o)) o.key
    ≡ Some (record { order = o; answer = answer_for b.accounts (journal b) o })
