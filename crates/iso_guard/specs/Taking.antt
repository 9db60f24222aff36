-- What is taken of a peer of a guarded line, and what waits then.
use Rattle.std.specs.Prelude.{◌≡◌, ◌⊎◌, ℕ, ◌≤◌, true, List, [], ◌++◌, length, take, drop, Option, Some, None}
use Rattle.iso_wire.specs.Framing.{frame_of, frames_of, AllFit, NoFrame, is_bad_header, largest}
use Rattle.iso_issuer.specs.Books.{Books}
use Rattle.iso_host.specs.Peers.{OnePeer, one_peer}
use Rattle.iso_host.specs.Hosting.{Replying}
use Rattle.iso_host.specs.declared.peer.PeerFault.{PeerFault}
use Rattle.iso_host.specs.declared.peer.PeerFault.TheVariants.{BadHeader, Memory}
use Rattle.iso_peers.specs.declared.turn.Turned.{Turned}
use Rattle.iso_peers.specs.Turn.{BooksChange, books_change}
use Rattle.iso_guard.specs.Guarding.{Guard, GuardedState}
use Rattle.iso_guard.specs.Entering.{EntersOrNot, books_after_guarded}
use Rattle.iso_guard.specs.Answering.{IsGuardedOutput}

-- without memory the books stay, or the body of the first frame entered, and its answer wasn't made
abbrev pub WantsMemory : Guard → List ℕ → Books → Books → Type 0
WantsMemory g held before after =
    (after ≡ before)
    ⊎ ((body : List ℕ) × (more : List ℕ) × (held ≡ frame_of g.header body ++ more)
    × (length body ≤ largest g.header) × EntersOrNot g before after body)

-- why no more frames are taken of the bytes that are held, and whether bytes are left: no whole frame begins; a header isn't
-- of digits; or memory ran out
abbrev pub StopsGuarded : Guard → List ℕ → List ℕ → BooksChange → Option PeerFault → Type 0
StopsGuarded g held rest books None = (rest ≡ []) × NoFrame g.header held
    × (books.after ≡ books.before)
StopsGuarded g held rest books (Some BadHeader) = (rest ≡ [])
    × (is_bad_header g.header held ≡ true) × (books.after ≡ books.before)
StopsGuarded g held rest books (Some Memory) = WantsMemory g held books.before books.after

-- a guarded peer at its host, whose books are these
abbrev pub guarded_at : GuardedState → Books → OnePeer
guarded_at p books = one_peer p.held books p.waiting

-- the messages of all whole frames come to the books, one after the other, and the answers wait behind the others
pub record TakesGuarded (g : Guard) (before after : OnePeer) (bytes : List ℕ)
    (turned : Turned) : Type 0 where
  pub within : turned.used ≤ length bytes
  pub bodies : List (List ℕ)
  pub joined : before.held ++ take turned.used bytes ≡ frames_of g.header bodies ++ after.held
  pub fit : AllFit g.header bodies
  pub answers : List ℕ
  pub output : IsGuardedOutput g before.books bodies answers
  pub waits : after.out ≡ before.out ++ answers
  pub stops : StopsGuarded g after.held (drop turned.used bytes)
      (books_change (books_after_guarded g before.books bodies) after.books) turned.stopped

-- inside: the same of bytes that are all held, of which so many are taken
pub record TakesFrames (g : Guard) (before after : Replying) (bytes : List ℕ)
    (turned : Turned) : Type 0 where
  pub within : turned.used ≤ length bytes
  pub bodies : List (List ℕ)
  pub joined : bytes ≡ frames_of g.header bodies ++ drop turned.used bytes
  pub fit : AllFit g.header bodies
  pub answers : List ℕ
  pub output : IsGuardedOutput g before.books bodies answers
  pub waits : after.out ≡ before.out ++ answers
  pub stops : StopsGuarded g (drop turned.used bytes) []
      (books_change (books_after_guarded g before.books bodies) after.books) turned.stopped
