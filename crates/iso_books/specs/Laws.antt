-- What a survey without accounts says of every host.
use Rattle.std.specs.Prelude.{◌≡◌, ℕ, ◌+◌, List, length, Some}
use Rattle.iso_order.specs.Order.{Instruction}
use Rattle.iso_issuer.specs.declared.account.Account.{Account}
use Rattle.iso_journal.specs.Orders.{order_of}
use Rattle.iso_journal.specs.Written.{IsWritten, row_after}
use Rattle.iso_books.specs.Rows.{row_at}

-- the record that a host writes behind so many orders is the row of its place, whatever its accounts
abbrev pub WrittenTellsItsPlace : Type 0
WrittenTellsItsPlace =
    (accounts : List Account) (limit : ℕ) (before : List Instruction) (bytes : List ℕ) →
    IsWritten accounts limit before bytes →
    row_at (length before + 1) bytes ≡ Some (row_after accounts before (order_of bytes))
