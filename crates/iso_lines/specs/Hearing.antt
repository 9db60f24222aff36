-- What is heard of each peer, in which order it enters the books, and what waits for the peer then.
use Rattle.std.specs.Prelude.{◌≡◌, ◌≤◌, ℕ, Bool, true, false, eqb, List, [], ◌∷◌, ◌++◌, length, take, Option, Some, None, Result, Ok, Err, if◌then◌else◌}
use Rattle.std.specs.List.{AllByRecursion}
use Rattle.std.specs.Io.KnownBytes.{Consumes}
use Rattle.iso_wire.specs.Framing.{frames_of, AllFit, NoFrame}
use Rattle.iso_issuer.specs.Books.{Books}
use Rattle.iso_durable.specs.declared.log.LogFailed.{LogFailed}
use Rattle.iso_host.specs.declared.peer.PeerFault.{PeerFault}
use Rattle.iso_host.specs.declared.peer.PeerFault.TheVariants as fault
use Rattle.iso_peers.specs.declared.fault.TurnFault.{TurnFault}
use Rattle.iso_peers.specs.declared.fault.TurnFault.TheVariants as turn
use Rattle.iso_peers.specs.declared.turn.Turned.{Turned}
use Rattle.iso_peers.specs.Connection.{ConnectionState}
use Rattle.iso_guard.specs.Guarding.{Guard, GuardedState}
use Rattle.iso_guard.specs.Entering.{books_after_guarded}
use Rattle.iso_guard.specs.Answering.{IsGuardedAnswer}
use Rattle.iso_lines.specs.declared.line.Line.{Line}
use Rattle.iso_lines.specs.declared.hearing.Piece.{Piece}
use Rattle.iso_lines.specs.declared.hearing.Piece.TheVariants as piece
use Rattle.iso_lines.specs.declared.peer.Peer.{Peer}
use Rattle.iso_lines.specs.declared.peers.Peers.{Peers}
use Rattle.iso_lines.specs.declared.standing.Closing.{Closing}
use Rattle.iso_lines.specs.declared.standing.Closing.TheVariants as closing
use Rattle.iso_lines.specs.Guarded.{guard_at, is_guarded}
use Rattle.iso_lines.specs.Keys.{peer_at, looked_at}

-- ---- frames

-- a whole frame that came: the key of its peer, its line, its body, and whether its answer was made, for which memory may
-- be wanting
pub record Arrival : Type 0 where
  pub key : ℕ
  pub line : Guard
  pub body : List ℕ
  pub answered : Bool

-- the books once the message of a frame is entered, if it may be spoken for
abbrev pub books_after_arrival : Books → Arrival → Books
books_after_arrival books a = books_after_guarded a.line books (a.body ∷ [])

-- the books once these frames came, one after the other
abbrev pub books_after_arrivals : Books → List Arrival → Books
books_after_arrivals books [] = books
books_after_arrivals books (a ∷ later) = books_after_arrivals (books_after_arrival books a) later

-- the bodies of a peer's own frames, in their order
abbrev pub bodies_of : ℕ → List Arrival → List (List ℕ)
bodies_of key [] = []
bodies_of key (a ∷ later) =
    if eqb a.key key then a.body ∷ bodies_of key later else bodies_of key later

-- the frames of these peers, one peer after the other
abbrev pub InTurn : List ℕ → List Arrival → Type 0
InTurn [] arrivals = arrivals ≡ []
InTurn (key ∷ keys) arrivals =
    (own : List Arrival) × (later : List Arrival) × AllByRecursion (λ a. a.key ≡ key) own
    × InTurn keys later × (arrivals ≡ own ++ later)

-- ---- answers

-- the answer to a body at these books, where it was made
abbrev pub IsAnswerIf : Bool → Guard → Books → List ℕ → List ℕ → Type 0
IsAnswerIf true line books body bytes = IsGuardedAnswer line books body bytes
IsAnswerIf false line books body bytes = bytes ≡ []

-- what a frame adds to what waits for a peer of this line: its answer, if it is the peer's own, and nothing otherwise
abbrev pub IsShare : Bool → Guard → Books → Arrival → List ℕ → Type 0
IsShare true line books a bytes = (a.line ≡ line) × IsAnswerIf a.answered line books a.body bytes
IsShare false line books a bytes = bytes ≡ []

-- what these frames add for a peer: the answers to its own, each at the books after all frames before it, whosever they are
abbrev pub AreAnswers : ℕ → Guard → Books → List Arrival → List ℕ → Type 0
AreAnswers key line books [] bytes = bytes ≡ []
AreAnswers key line books (a ∷ later) bytes =
    (first : List ℕ) × (others : List ℕ) × IsShare (eqb a.key key) line books a first
    × AreAnswers key line (books_after_arrival books a) later others × (bytes ≡ first ++ others)

-- ---- one peer

-- who sends: the key of a peer, and its line
pub record Sender : Type 0 where
  pub key : ℕ
  pub line : Guard

-- this peer of this line
abbrev pub sender : ℕ → Guard → Sender
sender key line = record { key = key; line = line }

-- what is kept of a peer: the bytes of its frame that isn't whole, those of its answers that aren't written, and why nothing
-- more comes of it
pub record Keeping : Type 0 where
  pub held : List ℕ
  pub waiting : List ℕ
  pub ended : Option Closing

-- these bytes, these answers and this end
abbrev pub keeping : List ℕ → List ℕ → Option Closing → Keeping
keeping held waiting ended = record { held = held; waiting = waiting; ended = ended }

-- frames that came, whosever they are, and the books before them
pub record Coming : Type 0 where
  pub books : Books
  pub arrivals : List Arrival

-- these frames at these books
abbrev pub coming : Books → List Arrival → Coming
coming books arrivals = record { books = books; arrivals = arrivals }

-- the books before and after
pub record Growth : Type 0 where
  pub before : Books
  pub after : Books

-- from these books to those
abbrev pub growth : Books → Books → Growth
growth before after = record { before = before; after = after }

-- bytes came of a peer, of which some were kept: its frames are those at the front of all these bytes, and their answers
-- wait behind the others. Unless it ended, no more is left than what is kept of it, and no whole frame begins there; once it
-- has ended, none of its frames comes
pub record IsHeard (who : Sender) (before after : Keeping) (came : Coming) (bytes : List ℕ)
    : Type 0 where
  pub rest : List ℕ
  pub front : before.held ++ bytes
      ≡ frames_of who.line.header (bodies_of who.key came.arrivals) ++ rest
  pub fit : AllFit who.line.header (bodies_of who.key came.arrivals)
  pub answers : List ℕ
  pub are : AreAnswers who.key who.line came.books came.arrivals answers
  pub waits : after.waiting ≡ before.waiting ++ answers
  pub stays : after.ended ≡ None → (before.ended ≡ None) × (rest ≡ after.held)
  pub whole : after.ended ≡ None → NoFrame who.line.header before.held
      → NoFrame who.line.header after.held
  pub over : (why : Closing) → before.ended ≡ Some why → bodies_of who.key came.arrivals ≡ []

-- how taking bytes ends at a fault, once so many are taken: it fails with the log, or is stopped
abbrev pub stopped_at : ℕ → TurnFault → Result Turned LogFailed
stopped_at used turn.Log = Err (record {})
stopped_at used turn.BadHeader = Ok (record { used = used; stopped = Some fault.BadHeader })
stopped_at used turn.Memory = Ok (record { used = used; stopped = Some fault.Memory })

-- a peer whose bytes were taken, or weren't, for this reason: whether it ended
abbrev pub ended_of : Option Closing → Option PeerFault → Option Closing
ended_of before None = before
ended_of before (Some fault.BadHeader) = Some closing.BadHeader
ended_of before (Some fault.Memory) = Some closing.Memory

-- the same, where the log had failed before
abbrev pub ended_after : Option Closing → Result Turned LogFailed → Option Closing
ended_after before (Ok turned) = ended_of before turned.stopped
ended_after before (Err failed) = Some closing.Stopped

-- a read into a block: so many bytes came, or none
abbrev pub ReadsPiece : Option (List ℕ) → Option (List ℕ) → List ℕ → Piece → Type 0
ReadsPiece old new block (piece.Came n) = (n ≤ length block) × Consumes old new (take n block)
ReadsPiece old new block piece.None = Consumes old new []
ReadsPiece old new block piece.Again = Consumes old new []
ReadsPiece old new block piece.Over = Consumes old new []
ReadsPiece old new block piece.Failed = Consumes old new []

-- what a peer is heard by: its line, the bytes of its frame that isn't whole, those of its answers that aren't written, and
-- why nothing more comes of it
pub record Dealing : Type 0 where
  pub line : Line
  pub held : List ℕ
  pub waiting : List ℕ
  pub ended : Option Closing

-- the same of its buffers, of which a guarded line has its own
abbrev pub dealing_by : Bool → Line → ConnectionState → GuardedState → Option Closing → Dealing
dealing_by true line direct guarded ended =
    record { line = line; held = guarded.held; waiting = guarded.waiting; ended = ended }
dealing_by false line direct guarded ended =
    record { line = line; held = direct.peer.held; waiting = direct.waiting; ended = ended }

-- what is kept of the peer by this
abbrev pub kept_of : Dealing → Keeping
kept_of d = keeping d.held d.waiting d.ended

-- a peer is heard
abbrev pub IsHeardAs : ℕ → Dealing → Dealing → Coming → List ℕ → Type 0
IsHeardAs key d e came bytes =
    IsHeard (sender key (guard_at d.line)) (kept_of d) (kept_of e) came bytes

-- a peer alone gave these bytes
pub record HearsBytes (key : ℕ) (d e : Dealing) (books : Growth) (bytes : List ℕ) : Type 0 where
  pub arrivals : List Arrival
  pub own : AllByRecursion (λ a. a.key ≡ key) arrivals
  pub entered : books.after ≡ books_after_arrivals books.before arrivals
  pub line : e.line ≡ d.line
  pub heard : IsHeardAs key d e (coming books.before arrivals) bytes

module _ {S : Type 0} where
  -- what a peer is heard by, of all that it has
  abbrev pub dealing_of : Peer S → Dealing
  dealing_of p =
      dealing_by (is_guarded p.line.terms.now) p.line p.connection p.guarded p.standing.ended

  -- a peer's stream, line and bytes stay
  pub record KeepsBytes (old new : Peer S) : Type 0 where
    pub stream : new.stream ≡ old.stream
    pub line : new.line ≡ old.line
    pub direct : new.connection ≡ old.connection
    pub guarded : new.guarded ≡ old.guarded

  module _ (remaining : S → Option (List ℕ)) where
    -- a peer alone is read from: the bytes are those that its stream gave
    pub record HearsAlone (key : ℕ) (p q : Peer S) (books : Growth) : Type 0 where
      pub bytes : List ℕ
      pub given : Consumes (remaining p.stream) (remaining q.stream) bytes
      pub hears : HearsBytes key (dealing_of p) (dealing_of q) books bytes

    -- what a turn hears of one peer among all these frames: the bytes that its stream gave have its own
    pub record HearsOwn (key : ℕ) (p q : Peer S) (came : Coming) : Type 0 where
      pub bytes : List ℕ
      pub given : Consumes (remaining p.stream) (remaining q.stream) bytes
      pub line : (dealing_of q).line ≡ (dealing_of p).line
      pub heard : IsHeardAs key (dealing_of p) (dealing_of q) came bytes

    -- the peer under a key alone is read from, if there is one
    abbrev pub ReadsAt : ℕ → Option (Peer S) → Option (Peer S) → Growth → Type 0
    ReadsAt key None after books = (after ≡ None) × (books.after ≡ books.before)
    ReadsAt key (Some p) None books = ⊥
    ReadsAt key (Some p) (Some q) books = HearsAlone key p q books

    -- what a turn hears of the peer under a key; no frame comes of a key without a peer
    abbrev pub HearsAt : ℕ → Option (Peer S) → Option (Peer S) → Coming → Type 0
    HearsAt key None after came = (after ≡ None) × (bodies_of key came.arrivals ≡ [])
    HearsAt key (Some p) None came = ⊥
    HearsAt key (Some p) (Some q) came = HearsOwn key p q came

    -- a turn: the frames of so many of the peers that it looks at, the first ones, one peer after the other, enter the books in this order;
    -- each peer's are those at the front of the bytes that its stream gave, behind those that it held; and its answers wait
    --
    -- Peers 4 and 7 are looked at. 4 held half a frame and gives its other half, and one more: its two frames enter, then the
    -- one that 7 gave. For 4 wait the answers to its two, at the books before the turn and at those after its first. For 7
    -- waits one answer, at the books after both of 4's.
    pub record HearsFirst (count : ℕ) (old new : Peers S) (books : Growth) : Type 0 where
      pub arrivals : List Arrival
      pub entered : books.after ≡ books_after_arrivals books.before arrivals
      pub order : InTurn (take count (looked_at old)) arrivals
      pub peers : (key : ℕ)
          → HearsAt key (peer_at old key) (peer_at new key) (coming books.before arrivals)

    -- a turn, which hears any number of the peers that it looks at, the first ones
    abbrev pub HearsTurn : Peers S → Peers S → Books → Books → Type 0
    HearsTurn old new before after =
        (count : ℕ) × HearsFirst count old new (growth before after)
