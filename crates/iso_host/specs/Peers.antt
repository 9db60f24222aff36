-- The peers of a host: the bytes of each as they come, in pieces of any size.
use Rattle.std.specs.Prelude.{◌≡◌, ◌≢◌, ◌⊎◌, ℕ, ◌≤◌, true, List, [], ◌++◌, length, take, Option, Some, None}
use Rattle.iso_table.specs.Layout.{Layout}
use Rattle.iso_wire.specs.declared.header.Header.{Header}
use Rattle.iso_wire.specs.Framing.{frame_of, largest, NeedsMore, is_bad_header}
use Rattle.iso_issuer.specs.Books.{Books}
use Rattle.iso_host.specs.Hosting.{Answers, EntersAlone, IsHandled, Replying, replying}
use Rattle.iso_host.specs.Links.{Agreed}
use Rattle.iso_host.specs.declared.handled.Handled.{Handled}
use Rattle.iso_host.specs.declared.peer.Taken.{Taken}
use Rattle.iso_host.specs.declared.peer.PeerFault.{PeerFault}
use Rattle.iso_host.specs.declared.peer.PeerFault.TheVariants.{BadHeader, Memory}

-- a peer: the table and the header of its link, and the bytes of its frame that isn't whole yet
pub record Unfinished : Type 0 where
  pub table : Layout
  pub header : Header
  pub held : List ℕ

-- on this link, with these bytes
abbrev pub unfinished : Agreed → List ℕ → Unfinished
unfinished l held = record { table = l.table; header = l.header; held = held }

-- one peer at a host: the bytes that it holds of a frame, the books of the host, and the bytes that come out for it
pub record OnePeer : Type 0 where
  pub held : List ℕ
  pub books : Books
  pub out : List ℕ

-- these bytes that it holds, these books, and these that come out
abbrev pub one_peer : List ℕ → Books → List ℕ → OnePeer
one_peer held books out = record { held = held; books = books; out = out }

-- the host, and what it replies to the peer
abbrev pub host_of : OnePeer → Replying
host_of p = replying p.books p.out

-- a piece is taken: it stays behind the bytes that were held, and no whole frame is there yet; or it ends a frame, whose
-- body is answered, and nothing is held
abbrev pub TakesPiece : Agreed → OnePeer → OnePeer → List ℕ → Option Handled → Type 0
TakesPiece l before after piece None = (after.held ≡ before.held ++ piece)
    × NeedsMore l.header after.held × (after.books ≡ before.books) × (after.out ≡ before.out)
TakesPiece l before after piece (Some handled) =
    (body : List ℕ) × (before.held ++ piece ≡ frame_of l.header body)
    × (length body ≤ largest l.header) × (after.held ≡ [])
    × Answers l (host_of before) (host_of after) body × IsHandled l.table before.books body handled

-- the first bytes are taken, up to the end of a frame at most, and one at least
pub record Takes (l : Agreed) (before after : OnePeer) (bytes : List ℕ)
    (taken : Taken) : Type 0 where
  pub within : taken.used ≤ length bytes
  pub piece : TakesPiece l before after (take taken.used bytes) taken.handled
  pub some : bytes ≢ [] → taken.used ≢ 0

-- nothing is taken: a header isn't of digits; or memory ran out, and a frame's body may be entered
abbrev pub Refuses : Unfinished → Books → Books → List ℕ → PeerFault → Type 0
Refuses p old new bytes BadHeader = (new ≡ old)
    × (is_bad_header p.header (p.held ++ bytes) ≡ true)
Refuses p old new bytes Memory =
    (new ≡ old)
    ⊎ ((body : List ℕ) × (more : List ℕ) × (p.held ++ bytes ≡ frame_of p.header body ++ more)
    × (length body ≤ largest p.header) × EntersAlone p.table p.header old new body)
