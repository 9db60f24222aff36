-- The records that a host writes.
use Rattle.std.specs.Prelude.{◌≡◌, ℕ, true, List, [], ◌∷◌, ◌++◌, drop, Some}
use Rattle.iso_order.specs.Order.{Instruction}
use Rattle.iso_issuer.specs.declared.account.Account.{Account}
use Rattle.iso_issuer.specs.Books.{Books}
use Rattle.iso_issuer.specs.Decision.{journal_of, answer_for}
use Rattle.iso_durable.specs.Host.{is_taken}
use Rattle.iso_record.specs.declared.row.Row.{Row}
use Rattle.iso_record.specs.Row.{row_in}
use Rattle.iso_journal.specs.Orders.{order_of}

-- the row of an order: with the answer that these accounts give it after those before it
abbrev pub row_after : List Account → List Instruction → Instruction → Row
row_after accounts before o =
    record { order = o; answer = answer_for accounts (journal_of accounts before) o }

-- the books of a host that entered these orders
abbrev pub books_after : List Account → ℕ → List Instruction → Books
books_after accounts limit before = record { accounts = accounts; limit = limit; orders = before }

-- a host that entered these orders writes this record: the row of an order whose key is new
pub record IsWritten (accounts : List Account) (limit : ℕ) (before : List Instruction)
    (bytes : List ℕ) : Type 0 where
  pub row : row_in bytes ≡ Some (row_after accounts before (order_of bytes))
  pub new : is_taken (books_after accounts limit before) (order_of bytes) ≡ true

-- each of the records, after those before it
abbrev pub AreWritten : List Account → ℕ → List Instruction → List (List ℕ) → Type 0
AreWritten accounts limit before [] = Unit
AreWritten accounts limit before (r ∷ rs) = IsWritten accounts limit before r
    × AreWritten accounts limit (before ++ order_of r ∷ []) rs

-- all the records of a journal but the first, which is the heading
abbrev pub IsReplayed : List Account → ℕ → List (List ℕ) → Type 0
IsReplayed accounts limit records = AreWritten accounts limit [] (drop 1 records)
