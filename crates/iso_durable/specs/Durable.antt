-- What a host keeps over a crash.
use Rattle.std.specs.Prelude.{◌≡◌, ℕ, List, [], ◌∷◌, ◌++◌, take, length, nat_le, if◌then◌else◌}
use Rattle.iso_order.specs.Codes.{system_malfunction}
use Rattle.iso_order.specs.Order.{Instruction}
use Rattle.iso_order.specs.Outcome.{Outcome, code_alone}
use Rattle.iso_issuer.specs.declared.account.Account.{Account}
use Rattle.iso_issuer.specs.Journal.{is_entered}
use Rattle.iso_issuer.specs.Books.{Books, journal, is_full}
use Rattle.iso_issuer.specs.Decision.{answer_for}

-- its accounts and its limit, the orders on the disk, and those behind them that wait for a sync
pub record Durable : Type 0 where
  pub accounts : List Account
  pub limit : ℕ
  pub synced : List Instruction
  pub pending : List Instruction

-- all the orders that were entered
abbrev pub entered : Durable → List Instruction
entered d = d.synced ++ d.pending

-- the books of an issuer that entered them
abbrev pub books_of : Durable → Books
books_of d = record { accounts = d.accounts; limit = d.limit; orders = entered d }

-- a crash keeps what is on the disk, and some of what is behind it, from the front
abbrev pub MayLeave : Durable → List Instruction → Type 0
MayLeave d orders = (n : ℕ) × (orders ≡ d.synced ++ take n d.pending)

-- an order that comes waits for the sync, if its key is new and there is room
abbrev pub pending_after : Durable → Instruction → List Instruction
pending_after d o = if is_entered (entered d) o.key then d.pending
    else (if nat_le d.limit (length (entered d)) then d.pending else d.pending ++ o ∷ [])

-- an order comes
abbrev pub comes : Durable → Instruction → Durable
comes d o = record {
  accounts = d.accounts;
  limit = d.limit;
  synced = d.synced;
  pending = pending_after d o;
}

-- orders come, one after another
abbrev pub come_all : Durable → List Instruction → Durable
come_all d [] = d
come_all d (o ∷ os) = come_all (comes d o) os

-- the answer to an order: a system malfunction where the journal is full
abbrev pub outcome : Durable → Instruction → Outcome
outcome d o = if is_full (books_of d) o.key then code_alone system_malfunction
    else answer_for d.accounts (journal (books_of d)) o

-- the answers to orders, each after those before it
abbrev pub outcomes : Durable → List Instruction → List Outcome
outcomes d [] = []
outcomes d (o ∷ os) = outcome d o ∷ outcomes (comes d o) os

-- the log is synced
abbrev pub syncs : Durable → Durable
syncs d = record { accounts = d.accounts; limit = d.limit; synced = entered d; pending = [] }

-- a crash, and the start after it
abbrev pub crashes : ℕ → Durable → Durable
crashes n d = record {
  accounts = d.accounts;
  limit = d.limit;
  synced = d.synced ++ take n d.pending;
  pending = [];
}
