-- What serving a stream leaves: each answer that was written is of an order that is kept.
use Rattle.std.specs.Prelude.{◌≡◌, ◌≢◌, ℕ, true, List, [], ◌++◌, Result, Ok, Err}
use Rattle.std.specs.declared.option.Option.{Option}
use Rattle.std.specs.Io.KnownBytes.{Appends, Keeps, IsAtEnd}
use Rattle.iso_wire.specs.Framing.{is_bad_header}
use Rattle.iso_order.specs.Order.{Instruction}
use Rattle.iso_issuer.specs.Books.{Books}
use Rattle.iso_host.specs.Links.{Agreed}
use Rattle.iso_host.specs.Entering.{books_after_bodies}
use Rattle.iso_host.specs.Output.{IsOutput}
use Rattle.iso_host.specs.Peers.{Refuses, unfinished}
use Rattle.iso_host.specs.Serving.{IsPrefix, Serves, IsWhole, standing, Standing}
use Rattle.iso_host.specs.Writing.{WritesSome}
use Rattle.iso_host.specs.declared.fault.Report.{Report}
use Rattle.iso_host.specs.declared.peer.PeerFault.{PeerFault}
use Rattle.iso_host.specs.declared.peer.PeerFault.TheVariants as peer
use Rattle.iso_service.specs.declared.fault.ServiceFault.{ServiceFault}
use Rattle.iso_service.specs.declared.fault.ServiceFault.TheVariants.{Read, Write, BadHeader, CutFrame, Memory, Log}

-- ---- what is kept

-- each crash leaves these orders, and behind them whatever else came
abbrev pub StayBehind : (List Instruction → Type 0) → List Instruction → Type 0
StayBehind may_leave orders = (c : List Instruction) → may_leave c
    → (more : List Instruction) × (c ≡ orders ++ more)

-- each crash leaves the orders of these books
abbrev pub Stay : (List Instruction → Type 0) → Books → Type 0
Stay may_leave books = StayBehind may_leave books.orders

-- what was written is the output for these bodies, or its front, and each crash leaves the orders that they asked
pub record AreKept (l : Agreed) (held written : Option (List ℕ)) (old : Books)
    (may_leave : List Instruction → Type 0) : Type 0 where
  pub bodies : List (List ℕ)
  pub answers : List ℕ
  pub output : IsOutput l.table l.header old bodies answers
  pub shown : List ℕ
  pub front : IsPrefix shown answers
  pub appends : Appends held written shown
  pub stay : Stay may_leave (books_after_bodies l.table old bodies)

-- ---- how it ends

-- the whole frames before the bytes that were refused are entered and answered; of those without memory the order may be entered
abbrev pub WithoutMemory : Agreed → Standing → Standing → Type 0
WithoutMemory l before after =
    (mid : Books) × (bodies : List (List ℕ)) × (rest : List ℕ)
    × Serves l before (standing after.unread after.written mid) bodies rest
    × Refuses (unfinished l []) mid after.books rest peer.Memory

-- what was read, entered and answered, by how it ends
abbrev pub Leaves : Agreed → Standing → Standing → Result Report ServiceFault → Type 0
Leaves l before after (Ok report) =
    IsWhole l before after (λ bodies rest. (rest ≡ []) × IsAtEnd after.unread)
Leaves l before after (Err Read) = IsWhole l before after (λ bodies rest. Unit {0})
Leaves l before after (Err BadHeader) =
    IsWhole l before after (λ bodies rest. is_bad_header l.header rest ≡ true)
Leaves l before after (Err CutFrame) =
    IsWhole l before after (λ bodies rest. (rest ≢ []) × IsAtEnd after.unread)
Leaves l before after (Err Memory) = WithoutMemory l before after
Leaves l before after (Err Write) = Unit {0}
Leaves l before after (Err Log) = Unit {0}

-- ---- one answer

-- what waits is written whole, or not at all, or its front
abbrev pub Hands : Option (List ℕ) → Option (List ℕ) → List ℕ → Result (Unit {0}) ServiceFault
    → Type 0
Hands held written waiting (Ok done) = Appends held written waiting
Hands held written waiting (Err Log) = Keeps held written
Hands held written waiting (Err Write) = WritesSome held written waiting
Hands held written waiting (Err Read) = ⊥
Hands held written waiting (Err BadHeader) = ⊥
Hands held written waiting (Err CutFrame) = ⊥
Hands held written waiting (Err Memory) = ⊥

-- it holds, unless the log failed
abbrev pub UnlessLog : {T : Type 0} → Result T ServiceFault → Type 0 → Type 0
UnlessLog (Ok x) P = P
UnlessLog (Err Log) P = Unit {0}
UnlessLog (Err Write) P = P
UnlessLog (Err Read) P = P
UnlessLog (Err BadHeader) P = P
UnlessLog (Err CutFrame) P = P
UnlessLog (Err Memory) P = P

-- where the input ends, the frame that was begun is cut, if one was
abbrev pub EndsAt : List ℕ → Result Report ServiceFault → Type 0
EndsAt held (Ok report) = held ≡ []
EndsAt held (Err CutFrame) = held ≢ []
EndsAt held (Err Read) = ⊥
EndsAt held (Err Write) = ⊥
EndsAt held (Err BadHeader) = ⊥
EndsAt held (Err Memory) = ⊥
EndsAt held (Err Log) = ⊥

-- how a peer that takes no more ends the serving
abbrev pub stop_of : PeerFault → ServiceFault
stop_of peer.BadHeader = BadHeader
stop_of peer.Memory = Memory
