-- Lines whose peers may speak for some acquirers alone, or where bytes stand before each message.
use Rattle.std.specs.Prelude.{◌≡◌, ℕ, Bool, true, false, List, Option, Some, None, if◌then◌else◌}
use Rattle.std.specs.List.{AllByRecursion}
use Rattle.iso_table.specs.Layout.{Layout}
use Rattle.iso_wire.specs.declared.header.Header.{Header}
use Rattle.iso_wire.specs.Contents.{Contents}
use Rattle.iso_order.specs.declared.key.TxKey.{TxKey}
use Rattle.iso_order.specs.declared.verdict.Verdict.{Verdict}
use Rattle.iso_order.specs.declared.verdict.Verdict.TheVariants.{Order, Reply, Silent}
use Rattle.iso_issuer.specs.Books.{Books}
use Rattle.iso_host.specs.Asking.{asked_of, message_in}
use Rattle.iso_host.specs.Entering.{books_after_bodies}
use Rattle.iso_host.specs.Links.{Agreed}
use Rattle.iso_links.specs.Terms.{speaks_for}
use Rattle.iso_links.specs.declared.terms.Terms.{Terms}

-- ---- what is agreed on

-- a guarded line: its table and header, the acquirers that its peers may speak for, and how many bytes stand before each
-- message
pub record Guard : Type 0 where
  pub table : Layout
  pub header : Header
  pub acquirers : List ℕ
  pub skip : ℕ

-- the line of this link and these terms
abbrev pub guard_of : Agreed → Terms → Guard
guard_of link terms = record {
  table = link.table;
  header = link.header;
  acquirers = terms.acquirers.items;
  skip = terms.skip;
}

-- a peer of a guarded line: the line, the bytes of its frame that isn't whole, and those of its answers that aren't written
pub record GuardedState : Type 0 where
  pub guard : Guard
  pub held : List ℕ
  pub waiting : List ℕ

-- ---- whom a message speaks for

-- the key of an order that may not be spoken for
abbrev pub foreign_of : List ℕ → Option Verdict → Option TxKey
foreign_of acquirers (Some (Order o)) =
    if speaks_for acquirers o.key.acquirer then None else Some o.key
foreign_of acquirers (Some (Reply code)) = None
foreign_of acquirers (Some Silent) = None
foreign_of acquirers None = None

-- a message's bytes ask no order, or one of an acquirer that may be spoken for
abbrev pub IsAllowed : List ℕ → Layout → List ℕ → Type 0
IsAllowed acquirers t body = foreign_of acquirers (asked_of t body) ≡ None

-- whole bytes are this message, or they are none
abbrev pub IsRead : Layout → List ℕ → Contents → Bool → Type 0
IsRead t body m true = message_in t body ≡ Some m
IsRead t body m false = message_in t body ≡ None

-- the books grow by messages of which none asks an order that may not be spoken for
pub record EntersAllowed (acquirers : List ℕ) (t : Layout) (old new : Books) : Type 0 where
  pub bodies : List (List ℕ)
  pub allowed : AllByRecursion (IsAllowed acquirers t) bodies
  pub entered : new ≡ books_after_bodies t old bodies
