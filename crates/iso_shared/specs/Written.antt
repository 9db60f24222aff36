-- The batches that a host writes.
use Rattle.std.specs.Prelude.{◌≡◌, ℕ, true, List, [], ◌∷◌, ◌++◌, Some}
use Rattle.iso_order.specs.Order.{Instruction}
use Rattle.iso_issuer.specs.declared.account.Account.{Account}
use Rattle.iso_issuer.specs.Books.{Books}
use Rattle.iso_issuer.specs.Decision.{journal_of, answer_for}
use Rattle.iso_durable.specs.Host.{is_taken}
use Rattle.iso_record.specs.declared.row.Row.{Row}
use Rattle.iso_shared.specs.Batch.{BatchContents, batch_in}

-- a host with these orders writes this row: its key is new, there is room, and the answer is the one that they give
pub record IsWritten (accounts : List Account) (limit : ℕ) (before : List Instruction)
    (row : Row) : Type 0 where
  pub answer_is : row.answer ≡ answer_for accounts (journal_of accounts before) row.order
  pub new :
      is_taken (record { accounts = accounts; limit = limit; orders = before }) row.order ≡ true

-- each of the rows, after those before it
abbrev pub AreWritten : List Account → ℕ → List Instruction → List Row → Type 0
AreWritten accounts limit before [] = Unit {0}
AreWritten accounts limit before (r ∷ rs) =
    IsWritten accounts limit before r × AreWritten accounts limit (before ++ r.order ∷ []) rs

-- the bytes are a batch that a host with the books of the batches before writes at this place
pub record IsNext (books : Books) (place : ℕ) (bytes : List ℕ) : Type 0 where
  pub batch : BatchContents
  pub is : batch_in bytes ≡ Some batch
  pub here : batch.heading.place ≡ place
  pub rows : AreWritten books.accounts books.limit books.orders batch.rows
