-- An issuer as contracts see it, and what handling orders does to it.
use Rattle.std.specs.Prelude.{◌≡◌, ◌<◌, ℕ, Bool, true, false, not, ◌&&◌, nat_le, List, [], ◌∷◌, ◌++◌, length, Result, Ok, Err}
use Rattle.iso_order.specs.declared.key.TxKey.{TxKey}
use Rattle.iso_order.specs.Outcome.{Outcome}
use Rattle.iso_order.specs.Order.{Instruction}
use Rattle.iso_issuer.specs.declared.account.Account.{Account}
use Rattle.iso_issuer.specs.declared.journal.Entry.{Entry}
use Rattle.iso_issuer.specs.declared.fault.Refused.{Refused}
use Rattle.iso_issuer.specs.declared.fault.Refused.TheVariants.{Full, Memory}
use Rattle.iso_issuer.specs.Journal.{firsts, is_entered}
use Rattle.iso_issuer.specs.Decision.{journal_of, answer_for}

-- its accounts, its limit, and the orders that were entered, in order
pub record Books : Type 0 where
  pub accounts : List Account
  pub limit : ℕ
  pub orders : List Instruction

-- the orders entered, each with its answer
abbrev pub journal : Books → List Entry
journal b = journal_of b.accounts b.orders

-- the journal is at its limit, and the key is new
abbrev pub is_full : Books → TxKey → Bool
is_full b key = not (is_entered b.orders key) && nat_le b.limit (length b.orders)

-- there is no room for an order of this key
abbrev pub IsFullFor : Books → TxKey → Type 0
IsFullFor b key = is_full b key ≡ true

-- there is room, and the key is new
pub record IsRoomFor (b : Books) (key : TxKey) : Type 0 where
  pub below : length b.orders < b.limit
  pub new : is_entered b.orders key ≡ false

-- the books with an order more, unless its key is there
abbrev pub books_with : Books → Instruction → Books
books_with b o =
    record { accounts = b.accounts; limit = b.limit; orders = firsts (b.orders ++ o ∷ []) }

-- what an order may be answered
abbrev pub IsAnswerFor : Books → Instruction → Result Outcome Refused → Type 0
IsAnswerFor b o (Ok answer) = (answer ≡ answer_for b.accounts (journal b) o)
    × (IsFullFor b o.key → ⊥)
IsAnswerFor b o (Err Full) = IsFullFor b o.key
IsAnswerFor b o (Err Memory) = IsRoomFor b o.key

-- what an order and its answer leave: a refusal changes nothing
abbrev pub books_left_by : Books → Instruction → Result Outcome Refused → Books
books_left_by b o (Ok answer) = books_with b o
books_left_by b o (Err refused) = b

-- each order of the list has the answer that it may have after those before it
abbrev pub IsRun : Books → List Instruction → List (Result Outcome Refused) → Books → Type 0
IsRun b [] [] new = new ≡ b
IsRun b (o ∷ os) (r ∷ rs) new = IsAnswerFor b o r × IsRun (books_left_by b o r) os rs new
IsRun b [] (r ∷ rs) new = ⊥
IsRun b (o ∷ os) [] new = ⊥

-- the orders that were answered
abbrev pub answered_of : List Instruction → List (Result Outcome Refused) → List Instruction
answered_of (o ∷ os) (Ok a ∷ rs) = o ∷ answered_of os rs
answered_of (o ∷ os) (Err e ∷ rs) = answered_of os rs
answered_of [] rs = []
answered_of (o ∷ os) [] = []
