-- The bytes of a peer that are taken piece after piece.
use Rattle.std.specs.Prelude.{◌≡◌, ◌+◌, ◌≤◌, ℕ, List, ◌++◌, length, take, drop, Some, None}
use Rattle.iso_wire.specs.Framing.{frames_of, AllFit}
use Rattle.iso_issuer.specs.Books.{Books}
use Rattle.iso_host.specs.Entering.{books_after_bodies}
use Rattle.iso_host.specs.Output.{IsOutput}
use Rattle.iso_host.specs.Peers.{Refuses}
use Rattle.iso_host.specs.declared.peer.PeerFault.{PeerFault}
use Rattle.iso_host.specs.declared.peer.Taken.{Taken}
use Rattle.iso_peers.specs.Connection.{ConnectionState}
use Rattle.iso_peers.specs.Turn.{AtBooks, TakesAll, TakesOf, at_books}

-- so many of the bytes were taken, from the front on: the bodies of the frames that they end are entered, one after the
-- other, the answers wait behind the others, and the bytes behind the last of these frames are held
pub record TakenSoFar (before after : AtBooks) (bytes : List ℕ) (used : ℕ) : Type 0 where
  pub within : used ≤ length bytes
  pub table : after.connection.peer.table ≡ before.connection.peer.table
  pub header : after.connection.peer.header ≡ before.connection.peer.header
  pub bodies : List (List ℕ)
  pub joined : before.connection.peer.held ++ take used bytes
      ≡ frames_of before.connection.peer.header bodies ++ after.connection.peer.held
  pub fit : AllFit before.connection.peer.header bodies
  pub answers : List ℕ
  pub output : IsOutput before.connection.peer.table before.connection.peer.header before.books
      bodies answers
  pub waits : after.connection.waiting ≡ before.connection.waiting ++ answers
  pub books : after.books
      ≡ books_after_bodies before.connection.peer.table before.books bodies

-- the next piece is taken, on the same table and header
pub record TakesNext (before after : AtBooks) (bytes : List ℕ) (taken : Taken) : Type 0 where
  pub took : TakesOf before after bytes taken
  pub table : after.connection.peer.table ≡ before.connection.peer.table
  pub header : after.connection.peer.header ≡ before.connection.peer.header

-- how a peer's bytes are taken piece after piece, where these are the first books
pub record PieceLaws (books : Books) : Type 0 where
  -- at first nothing is taken
  pub none : (connection : ConnectionState) (bytes : List ℕ)
      → TakenSoFar (at_books connection books) (at_books connection books) bytes 0
  -- a piece that is taken from the front of the others comes behind those before it
  pub next : (first mid last : AtBooks) (bytes : List ℕ) (used : ℕ) (taken : Taken)
      → TakenSoFar first mid bytes used → TakesNext mid last (drop used bytes) taken
      → TakenSoFar first last bytes (used + taken.used)
  -- with the piece that ends the bytes all of them are taken
  pub all : (first mid last : AtBooks) (bytes : List ℕ) (used : ℕ) (taken : Taken)
      → TakenSoFar first mid bytes used → TakesNext mid last (drop used bytes) taken
      → used + taken.used ≡ length bytes
      → TakesAll first last bytes (record { used = used + taken.used; stopped = None })
  -- where the next piece is refused, those before it are what is taken
  pub refused : (first mid : AtBooks) (bytes : List ℕ) (used : ℕ) (after : Books)
      (why : PeerFault) → TakenSoFar first mid bytes used
      → Refuses mid.connection.peer mid.books after (drop used bytes) why
      → TakesAll first (at_books mid.connection after) bytes
      (record { used = used; stopped = Some why })
