-- What a turn takes of a peer, and what waits then.
use Rattle.std.specs.Prelude.{◌≡◌, ◌≤◌, Bool, true, false, ℕ, List, [], ◌++◌, length, take, drop, Option, Some, None}
use Rattle.iso_wire.specs.Framing.{frames_of, AllFit, NoFrame}
use Rattle.iso_issuer.specs.Books.{Books}
use Rattle.iso_host.specs.Entering.{books_after_bodies}
use Rattle.iso_host.specs.Output.{IsOutput}
use Rattle.iso_host.specs.Links.{agreed}
use Rattle.iso_host.specs.Peers.{OnePeer, Unfinished, Takes, Refuses, one_peer}
use Rattle.iso_host.specs.declared.peer.PeerFault.{PeerFault}
use Rattle.iso_host.specs.declared.peer.PeerFault.TheVariants as peer
use Rattle.iso_host.specs.declared.peer.Taken.{Taken}
use Rattle.iso_peers.specs.Connection.{ConnectionState}
use Rattle.iso_peers.specs.declared.fault.TurnFault.{TurnFault}
use Rattle.iso_peers.specs.declared.fault.TurnFault.TheVariants.{Log, BadHeader, Memory}
use Rattle.iso_peers.specs.declared.turn.Turned.{Turned}

-- a connection, and the books of its host
pub record AtBooks : Type 0 where
  pub connection : ConnectionState
  pub books : Books

-- this connection at these books
abbrev pub at_books : ConnectionState → Books → AtBooks
at_books connection books = record { connection = connection; books = books }

-- its peer at the host: the answers wait behind the others
abbrev pub peer_at : AtBooks → OnePeer
peer_at c = one_peer c.connection.peer.held c.books c.connection.waiting

-- the first bytes are taken of a peer at these books, up to the end of a frame, and its answer waits behind the others
abbrev pub TakesOf : AtBooks → AtBooks → List ℕ → Taken → Type 0
TakesOf before after bytes taken = Takes
    (agreed before.connection.peer.table before.connection.peer.header)
    (peer_at before) (peer_at after) bytes taken

-- the books before and after
pub record BooksChange : Type 0 where
  pub before : Books
  pub after : Books

-- from these books to those
abbrev pub books_change : Books → Books → BooksChange
books_change before after = record { before = before; after = after }

-- nothing is taken: the log failed before, or the peer refuses
abbrev pub RefusesTurn : Bool → Unfinished → BooksChange → List ℕ → TurnFault → Type 0
RefusesTurn failed p books bytes Log = (failed ≡ true) × (books.after ≡ books.before)
RefusesTurn failed p books bytes BadHeader = (failed ≡ false)
    × Refuses p books.before books.after bytes peer.BadHeader
RefusesTurn failed p books bytes Memory = (failed ≡ false)
    × Refuses p books.before books.after bytes peer.Memory

-- why the bytes behind the whole frames aren't taken: there are none, and the last frame isn't whole; or they are refused
abbrev pub StopsAt : Unfinished → Books → Books → List ℕ → Option PeerFault → Type 0
StopsAt p before after rest None = (rest ≡ []) × NoFrame p.header p.held × (after ≡ before)
StopsAt p before after rest (Some fault) = Refuses p before after rest fault

-- the bodies of all whole frames are entered, one after the other, and their answers wait behind the others
pub record TakesAll (before after : AtBooks) (bytes : List ℕ) (turned : Turned) : Type 0 where
  pub within : turned.used ≤ length bytes
  pub bodies : List (List ℕ)
  pub joined : before.connection.peer.held ++ take turned.used bytes
      ≡ frames_of before.connection.peer.header bodies ++ after.connection.peer.held
  pub fit : AllFit before.connection.peer.header bodies
  pub answers : List ℕ
  pub output : IsOutput before.connection.peer.table before.connection.peer.header before.books
      bodies answers
  pub waits : after.connection.waiting ≡ before.connection.waiting ++ answers
  pub stops : StopsAt after.connection.peer
      (books_after_bodies before.connection.peer.table before.books bodies) after.books
      (drop turned.used bytes) turned.stopped
