-- Any number of peers at one host, each on its own link, in any interleaving.
use Rattle.std.specs.Prelude.{◌≡◌, ◌≢◌, ◌==◌, ℕ, ◌≤◌, Bool, true, false, List, [], ◌∷◌, ◌++◌, length, take, map, flat_map, filter, ◌&&◌, Option, Result, Ok, Err, IsOk}
use Rattle.iso_wire.specs.Framing.{Splits}
use Rattle.iso_order.specs.Order.{Instruction}
use Rattle.iso_issuer.specs.Books.{Books}
use Rattle.iso_issuer.specs.Laws.{books_after}
use Rattle.iso_host.specs.Asking.{asked_of, orders_in}
use Rattle.iso_host.specs.Entering.{books_after_bodies}
use Rattle.iso_host.specs.Links.{Agreed}
use Rattle.iso_host.specs.Output.{IsAnswer, IsOutput}
use Rattle.iso_host.specs.Peers.{OnePeer, TakesPiece, Refuses, one_peer, unfinished}
use Rattle.iso_host.specs.declared.handled.Handled.{Handled}
use Rattle.iso_host.specs.declared.peer.PeerFault.TheVariants.{Memory}

-- ---- the calls

-- a call of `take`: its peer, by number, and its bytes. At `Ok` they are those that it took, and what came of the body
-- whose frame they ended, if they ended one; at `Err` memory ran out, and they are those that were offered
pub record Call : Type 0 where
  pub peer : ℕ
  pub bytes : List ℕ
  pub result : Result (Option Handled) (Unit {0})

-- what each peer holds, what came out for each so far, and the books of the host
pub record Peers : Type 0 where
  pub held : ℕ → List ℕ
  pub out : ℕ → List ℕ
  pub books : Books

-- the peer of this number
abbrev pub peer_of : ℕ → Peers → OnePeer
peer_of s peers = one_peer (peers.held s) peers.books (peers.out s)

-- what `take` does to a peer of this link and to the books: without memory nothing is taken and nothing comes out
abbrev pub Calls : Agreed → OnePeer → OnePeer → List ℕ → Result (Option Handled) (Unit {0}) → Type 0
Calls l before after bytes (Ok handled) = TakesPiece l before after bytes handled
Calls l before after bytes (Err e) = (after.held ≡ before.held) × (after.out ≡ before.out)
    × Refuses (unfinished l before.held) before.books after.books bytes Memory

-- a call leaves the other peers
pub record Goes (links : ℕ → Agreed) (call : Call) (old new : Peers) : Type 0 where
  pub calls : Calls (links call.peer) (peer_of call.peer old) (peer_of call.peer new)
      call.bytes call.result
  pub others_held : (s : ℕ) → s ≢ call.peer → new.held s ≡ old.held s
  pub others_out : (s : ℕ) → s ≢ call.peer → new.out s ≡ old.out s

-- call after call
abbrev pub GoesOn : (ℕ → Agreed) → List Call → Peers → Peers → Type 0
GoesOn links [] old new = new ≡ old
GoesOn links (call ∷ calls) old new = (mid : Peers) × Goes links call old mid
    × GoesOn links calls mid new

-- what a call took of its bytes: nothing where memory ran out
abbrev pub taken_of : Result (Option Handled) (Unit {0}) → List ℕ → List ℕ
taken_of (Ok handled) bytes = bytes
taken_of (Err e) bytes = []

-- the bytes that a peer took
abbrev pub bytes_of : ℕ → List Call → List ℕ
bytes_of s calls =
    flat_map (λ call. taken_of call.result call.bytes) (filter (λ call. call.peer == s) calls)

-- ---- the bodies that were entered

-- a body, its peer, and whether its answer came out; where memory for the answer was wanting, the body comes again
pub record Entry : Type 0 where
  pub peer : ℕ
  pub body : List ℕ
  pub answered : Bool

-- the bodies of a peer that were answered
abbrev pub bodies_of : ℕ → List Entry → List (List ℕ)
bodies_of s entries = map (λ e. e.body) (filter (λ e. (e.peer == s) && e.answered) entries)

-- the orders that the bodies ask, each under the table of its peer
abbrev pub orders_by : (ℕ → Agreed) → List Entry → List Instruction
orders_by links [] = []
orders_by links (e ∷ entries) =
    orders_in (asked_of (links e.peer).table e.body) ++ orders_by links entries

-- the books once these bodies were entered
unfoldable pub books_after_entries : (ℕ → Agreed) → Books → List Entry → Books
books_after_entries links books entries = books_after books (orders_by links entries)

-- the whole frames of each peer's bytes are those of its bodies
abbrev pub AreFrames : (ℕ → Agreed) → List Call → List Entry → Type 0
AreFrames links calls entries = (s : ℕ)
    → (rest : List ℕ) × Splits (links s).header (bytes_of s calls) (bodies_of s entries) rest

-- the bodies come in the order in which their frames ended: after any number of the calls, the first ones are those that
-- came whole
abbrev pub InOrder : (ℕ → Agreed) → List Call → List Entry → Type 0
InOrder links calls entries =
    (n : ℕ) → n ≤ length calls
    → (k : ℕ) × (k ≤ length entries) × AreFrames links (take n calls) (take k entries)

-- ---- what comes out

-- the answer to a body, where it comes out
abbrev pub IsAnswerIf : Bool → Agreed → Books → List ℕ → List ℕ → Type 0
IsAnswerIf true l books body bytes = IsAnswer l.table l.header books body bytes
IsAnswerIf false l books body bytes = bytes ≡ []

-- what a host opens with: the link of each peer, and the books
pub record Opening : Type 0 where
  pub links : ℕ → Agreed
  pub books : Books

-- these links and these books
abbrev pub opening : (ℕ → Agreed) → Books → Opening
opening links books = record { links = links; books = books }

-- what comes out of a peer for the bodies that were entered behind the earlier ones: the answers to its own, each at the
-- books after all bodies that were entered before it
abbrev pub IsShareFrom : Opening → ℕ → List Entry → List Entry → List ℕ → Type 0
IsShareFrom o s earlier [] bytes = bytes ≡ []
IsShareFrom o s earlier (e ∷ entries) bytes =
    (first : List ℕ) × (others : List ℕ)
    × IsAnswerIf ((e.peer == s) && e.answered) (o.links s)
    (books_after_entries o.links o.books earlier) e.body first
    × IsShareFrom o s (earlier ++ e ∷ []) entries others × (bytes ≡ first ++ others)

-- ---- the law

-- the bodies that were entered, in their order: the journal is theirs, and each peer has the answers to its own
pub record Shares (links : ℕ → Agreed) (calls : List Call) (old new : Peers)
    (entries : List Entry) : Type 0 where
  pub order : InOrder links calls entries
  pub frames : (s : ℕ)
      → Splits (links s).header (bytes_of s calls) (bodies_of s entries) (new.held s)
  pub books : new.books ≡ books_after_entries links old.books entries
  pub out : (s : ℕ) → (bytes : List ℕ) × IsShareFrom (opening links old.books) s [] entries bytes
      × (new.out s ≡ old.out s ++ bytes)

-- however the bytes of the peers are cut and interleaved, and wherever memory runs out
abbrev pub PeersShare : Books → Type 0
PeersShare books =
    (links : ℕ → Agreed) (calls : List Call) (old new : Peers)
    → old.books ≡ books → ((s : ℕ) → old.held s ≡ []) → GoesOn links calls old new
    → (entries : List Entry) × Shares links calls old new entries

-- all calls are of this peer, and memory suffices
abbrev pub AreOf : ℕ → List Call → Type 0
AreOf s [] = Unit {0}
AreOf s (call ∷ calls) = (call.peer ≡ s) × IsOk call.result × AreOf s calls

-- a peer alone: however its bytes are cut, what comes out is the output of the stream, and the journal is its too
abbrev pub PeerAlone : Books → Type 0
PeerAlone books =
    (links : ℕ → Agreed) (s : ℕ) (calls : List Call) (old new : Peers)
    → old.books ≡ books → ((s : ℕ) → old.held s ≡ []) → GoesOn links calls old new → AreOf s calls
    → (bodies : List (List ℕ)) × (bytes : List ℕ)
    × Splits (links s).header (bytes_of s calls) bodies (new.held s)
    × IsOutput (links s).table (links s).header old.books bodies bytes
    × (new.out s ≡ old.out s ++ bytes)
    × (new.books ≡ books_after_bodies (links s).table old.books bodies)
