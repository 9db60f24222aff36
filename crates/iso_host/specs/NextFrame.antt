-- What taking the next frame from a reader leaves, and answering its body.
-- Inner: bodies and proofs cite it, and no public clause does.
use Rattle.std.specs.Prelude.{◌≡◌, ℕ, ◌≤◌, ◌<◌, List, [], ◌++◌, length, Bool, true, false, Option, Result, Ok, Err}
use Rattle.std.specs.Io.KnownBytes.{Consumes, Keeps, IsAtEnd}
use Rattle.iso_wire.specs.Framing.{frame_of, largest, is_bad_header}
use Rattle.iso_host.specs.Hosting.{Answers, IsHandled, Replying}
use Rattle.iso_host.specs.Links.{Agreed}
use Rattle.iso_host.specs.Reading.{EndsInside, EndsReads, NoByte, Reading, TakesReads, to_come}
use Rattle.iso_host.specs.Peers.{Refuses, unfinished}
use Rattle.iso_host.specs.declared.handled.Handled.{Handled}
use Rattle.iso_host.specs.declared.peer.PeerFault.TheVariants as peer
use Rattle.iso_host.specs.declared.fault.ServeFault.{ServeFault}
use Rattle.iso_host.specs.declared.fault.ServeFault.TheVariants.{Read, Write, BadHeader, CutFrame, Memory, TooManyTurns}

-- the window has a byte, or there is none
abbrev pub Fills : {T : Type 0} → List ℕ → Option (List ℕ) → Result T ServeFault → Type 0
Fills window left (Ok x) = 0 < length window
Fills window left (Err e) = (window ≡ []) × NoByte left e

-- where a frame is taken: its reader, and the host that replies
pub record Taking : Type 0 where
  pub input : Reading
  pub host : Replying

-- this reader and this host
abbrev pub taking : Reading → Replying → Taking
taking input host = record { input = input; host = host }

-- these bytes were taken
abbrev pub TakesBytes : Taking → Taking → List ℕ → Type 0
TakesBytes before after bytes = Consumes (to_come before.input) (to_come after.input) bytes

-- the frame doesn't come to its end, or its body isn't answered
abbrev pub EndsBefore : Agreed → Taking → Taking → ServeFault → Type 0
EndsBefore l before after Read = EndsInside l.header before.input after.input Read
    × (after.host.books ≡ before.host.books)
EndsBefore l before after CutFrame = EndsInside l.header before.input after.input CutFrame
    × (after.host.books ≡ before.host.books)
EndsBefore l before after TooManyTurns = EndsInside l.header before.input after.input TooManyTurns
    × (after.host.books ≡ before.host.books)
EndsBefore l before after BadHeader = (part : List ℕ) × TakesBytes before after part
    × (is_bad_header l.header (part ++ after.input.window) ≡ true)
    × (after.host.books ≡ before.host.books)
EndsBefore l before after Memory = (part : List ℕ) × TakesBytes before after part
    × Refuses (unfinished l part) before.host.books after.host.books after.input.window peer.Memory
EndsBefore l before after Write = ⊥

-- a frame is taken and its body answered; or the input ends before it
abbrev pub AnswersFrame : Agreed → Taking → Taking → Handled → Result Bool ServeFault → Type 0
AnswersFrame l before after told (Ok true) =
    (body : List ℕ) × TakesBytes before after (frame_of l.header body)
    × (length body ≤ largest l.header) × Answers l before.host after.host body
    × IsHandled l.table before.host.books body told
AnswersFrame l before after told (Ok false) = Keeps (to_come before.input) (to_come after.input)
    × (after.input.window ≡ []) × IsAtEnd after.input.reader.bytes
    × (after.host.books ≡ before.host.books) × (after.host.out ≡ before.host.out)
AnswersFrame l before after told (Err e) = EndsBefore l before after e

-- the turns that it takes
abbrev pub SpendsOnNext : Reading → Reading → Result Bool ServeFault → Type 0
SpendsOnNext before after (Ok true) = TakesReads before after 1
SpendsOnNext before after (Ok false) =
    after.reader.counts.failures ≡ before.reader.counts.failures
SpendsOnNext before after (Err e) = EndsReads before after e
