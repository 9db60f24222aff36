-- A journal whose answers are decided again.
use Rattle.std.specs.Prelude.{◌≡◌, ℕ, ◌+◌, ◌<◌, ◌++◌, ◌∷◌, [], Bool, true, false, List, length, take, drop, Option, IfSome}
use Rattle.std.specs.List.{list_all}
use Rattle.std.specs.Io.KnownBytes.{Keeps}
use Rattle.iso_log.specs.Slots.{records_of}
use Rattle.iso_issuer.specs.declared.account.Account.{Account}
use Rattle.iso_issuer.specs.Books.{Books}
use Rattle.iso_journal.specs.Orders.{order_of, orders_of, journal_orders}
use Rattle.iso_journal.specs.Written.{IsWritten, AreWritten, IsReplayed}
use Rattle.iso_journal.specs.Why.{IsDamaged}
use Rattle.iso_books.specs.Records.{Between, IsTaken, is_clear, is_zero}
use Rattle.iso_books.specs.declared.replaying.Next.{Next}
use Rattle.iso_books.specs.declared.replaying.Next.TheVariants as next
use Rattle.iso_books.specs.declared.replaying.Replayed.{Replayed}
use Rattle.iso_books.specs.declared.replaying.Replayed.TheVariants.{Whole, Torn, Damaged}

-- an issuer of these accounts that entered the orders of the records, each of which is the one that a host writes
pub record HasEntered (accounts : List Account) (records : List (List ℕ)) (b : Books) : Type 0 where
  pub accounts_are : b.accounts ≡ accounts
  pub limit_is : b.limit ≡ 999999
  pub orders_are : b.orders ≡ journal_orders records
  pub written : IsReplayed accounts 999999 records

-- what a journal's file holds
abbrev pub IsFound : List Account → List ℕ → Replayed → Type 0
IsFound accounts file (Whole b) = HasEntered accounts (records_of file) b × (is_clear file ≡ true)
IsFound accounts file (Torn b) = HasEntered accounts (records_of file) b × (is_clear file ≡ false)
IsFound accounts file (Damaged place) = IsDamaged accounts 999999 place (records_of file)

-- how a replay ends where there is no record more, and zeros alone or not
abbrev pub replayed_at_end : Bool → Books → Replayed
replayed_at_end true b = Whole b
replayed_at_end false b = Torn b

-- ---- behind the heading

-- an issuer that entered the orders of so many records
pub record HasEnteredBehind (accounts : List Account) (records : List (List ℕ))
    (b : Books) : Type 0 where
  pub accounts_are : b.accounts ≡ accounts
  pub limit_is : b.limit ≡ 999999
  pub orders_are : b.orders ≡ orders_of records
  pub written : AreWritten accounts 999999 [] records

-- a host writes so many records, and not the next one
pub record IsDamagedBehind (accounts : List Account) (count : ℕ)
    (records : List (List ℕ)) : Type 0 where
  pub there : count < length records
  pub front : AreWritten accounts 999999 [] (take count records)
  pub not : AreWritten accounts 999999 [] (take (count + 1) records) → ⊥

-- what is left of a file behind its heading
abbrev pub IsFoundBehind : List Account → List ℕ → Replayed → Type 0
IsFoundBehind accounts rest (Whole b) = HasEnteredBehind accounts (records_of rest) b
    × (is_clear rest ≡ true)
IsFoundBehind accounts rest (Torn b) = HasEnteredBehind accounts (records_of rest) b
    × (is_clear rest ≡ false)
IsFoundBehind accounts rest (Damaged place) = (count : ℕ) × (place ≡ count + 1)
    × IsDamagedBehind accounts count (records_of rest)

-- the order of the record at the front was entered, which is the one that a host writes
abbrev pub TakesOrder : Books → Books → List ℕ → List ℕ → Type 0
TakesOrder old new file rest =
    (bytes : List ℕ) × IsTaken bytes file rest × IsWritten old.accounts old.limit old.orders bytes
    × (new.orders ≡ old.orders ++ order_of bytes ∷ [])

-- the record at the front isn't the one that a host writes then
abbrev pub IsUnwritten : Books → List ℕ → Type 0
IsUnwritten old file = (bytes : List ℕ) × IsTaken bytes file (drop 128 file)
    × (IsWritten old.accounts old.limit old.orders bytes → ⊥)

-- the same accounts and the same limit
pub record IsSameIssuer (old new : Books) : Type 0 where
  pub accounts_same : new.accounts ≡ old.accounts
  pub limit_same : new.limit ≡ old.limit

-- what an issuer makes of the record at the front
abbrev pub Enters : Books → Books → Next → Option (List ℕ) → Option (List ℕ) → Type 0
Enters old new next.Entered before after = IsSameIssuer old new
    × Between (TakesOrder old new) before after
Enters old new next.Damaged before after = IfSome before (IsUnwritten old)
Enters old new next.End before after = (new ≡ old) × Keeps before after
    × IfSome after (λ file. (records_of file ≡ []) × (is_clear file ≡ list_all is_zero file))
