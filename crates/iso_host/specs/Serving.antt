-- What a call of `serve` leaves.
use Rattle.std.specs.Prelude.{◌≡◌, ◌≢◌, ◌⊎◌, ℕ, ◌+◌, ◌-◌, ◌<◌, ◌≤◌, true, false, List, [], ◌++◌, length, take, Result, Ok, Err}
use Rattle.std.specs.declared.option.Option.{Option}
use Rattle.std.specs.Io.KnownBytes.{Appends, Consumes, IsAtEnd}
use Rattle.std.specs.Io.Iter.{u64_saturate}
use Rattle.iso_table.specs.Layout.{Layout}
use Rattle.iso_wire.specs.Framing.{frames_of, AllFit, NoFrame, is_bad_header}
use Rattle.iso_issuer.specs.Books.{Books}
use Rattle.iso_host.specs.Counts.{Counts, Stream, Usage}
use Rattle.iso_host.specs.Entering.{books_after_bodies}
use Rattle.iso_host.specs.Links.{Agreed}
use Rattle.iso_host.specs.Asking.{has_answer, is_silent, is_unreadable, count_asked}
use Rattle.iso_host.specs.Output.{IsOutput}
use Rattle.iso_host.specs.declared.fault.Report.{Report}
use Rattle.iso_host.specs.declared.fault.ServeFault.{ServeFault}
use Rattle.iso_host.specs.declared.fault.ServeFault.TheVariants.{Read, Write, BadHeader, CutFrame, Memory, TooManyTurns}

-- ---- the bytes and the journal

-- where serving stands: what is still to be read, what is written, and the books
pub record Standing : Type 0 where
  pub unread : Option (List ℕ)
  pub written : Option (List ℕ)
  pub books : Books

-- these bytes still to be read, these written, and these books
abbrev pub standing : Option (List ℕ) → Option (List ℕ) → Books → Standing
standing unread written books = record { unread = unread; written = written; books = books }

-- these bodies came in whole frames and then this rest; they were handled and answered, and no other
pub record Serves (l : Agreed) (before after : Standing) (bodies : List (List ℕ))
    (rest : List ℕ) : Type 0 where
  pub read : Consumes before.unread after.unread (frames_of l.header bodies ++ rest)
  pub fit : AllFit l.header bodies
  pub books : after.books ≡ books_after_bodies l.table before.books bodies
  pub bytes : List ℕ
  pub output : IsOutput l.table l.header before.books bodies bytes
  pub answers : Appends before.written after.written bytes

-- all but the last
abbrev pub front : List (List ℕ) → List (List ℕ)
front bodies = take (length bodies - 1) bodies

-- the second bytes begin with the first
abbrev pub IsPrefix : List ℕ → List ℕ → Type 0
IsPrefix xs ys = (more : List ℕ) × (ys ≡ xs ++ more)

-- these bodies came in whole frames; they were handled, and what was written lies between the output for all but the
-- last and the output for all
pub record Stops (l : Agreed) (before after : Standing) (bodies : List (List ℕ))
    (rest : List ℕ) : Type 0 where
  pub read : Consumes before.unread after.unread (frames_of l.header bodies ++ rest)
  pub fit : AllFit l.header bodies
  pub books : after.books ≡ books_after_bodies l.table before.books bodies
  pub bytes : List ℕ
  pub answers : Appends before.written after.written bytes
  pub less : List ℕ
  pub less_output : IsOutput l.table l.header before.books (front bodies) less
  pub no_less : IsPrefix less bytes
  pub most : List ℕ
  pub most_output : IsOutput l.table l.header before.books bodies most
  pub no_more : IsPrefix bytes most

-- ---- the report

-- the bodies by kind
pub record Reports (t : Layout) (report : Report) (bodies : List (List ℕ)) : Type 0 where
  pub frames : report.frames ≡ u64_saturate (length bodies)
  pub answered : report.answered ≡ u64_saturate (count_asked t has_answer bodies)
  pub silent : report.silent ≡ u64_saturate (count_asked t is_silent bodies)
  pub unreadable : report.unreadable ≡ u64_saturate (count_asked t is_unreadable bodies)

-- ---- each end

-- all whole frames were handled and answered, and P holds of the bodies and the rest
abbrev pub IsWhole : Agreed → Standing → Standing → (List (List ℕ) → List ℕ → Type 0) → Type 0
IsWhole l before after P = (bodies : List (List ℕ)) × (rest : List ℕ)
    × Serves l before after bodies rest × NoFrame l.header rest × P bodies rest

-- some whole frames were handled, and the last answer may be missing or cut short
abbrev pub IsCut : Agreed → Standing → Standing → Type 0
IsCut l before after = (bodies : List (List ℕ)) × (rest : List ℕ) × Stops l before after bodies rest

-- what is read, written and entered, by what `serve` answers
abbrev pub Leaves : Agreed → Standing → Standing → Result Report ServeFault → Type 0
Leaves l before after (Ok report) = IsWhole l before after
    (λ bodies rest. (rest ≡ []) × IsAtEnd after.unread × Reports l.table report bodies)
Leaves l before after (Err Read) = IsWhole l before after (λ bodies rest. Unit {0})
Leaves l before after (Err BadHeader) =
    IsWhole l before after (λ bodies rest. is_bad_header l.header rest ≡ true)
Leaves l before after (Err CutFrame) = IsWhole l before after
    (λ bodies rest. (rest ≢ []) × IsAtEnd after.unread × (is_bad_header l.header rest ≡ false))
Leaves l before after (Err Write) = IsCut l before after
Leaves l before after (Err Memory) = IsCut l before after
Leaves l before after (Err TooManyTurns) = IsCut l before after

-- ---- flushing

-- what is still to be read, the writer with its counts, and the books
pub record Sending : Type 0 where
  pub unread : Option (List ℕ)
  pub writer : Stream
  pub books : Books

-- these bytes still to be read, this writer and these books
abbrev pub sending : Option (List ℕ) → Stream → Books → Sending
sending unread writer books = record { unread = unread; writer = writer; books = books }

-- where serving stands, whatever the counts
abbrev pub standing_of : Sending → Standing
standing_of s = standing s.unread s.writer.bytes s.books

-- no byte waits for a flush, or the writer wasn't called
abbrev pub IsFlushed : Counts → Counts → Type 0
IsFlushed old new = (new.unflushed ≡ 0) ⊎ (new ≡ old)

-- of these bytes, those behind the first ones wait for a flush; where there are no first ones, so do earlier bytes
abbrev pub WaitsBehind : Counts → Counts → List ℕ → List ℕ → Type 0
WaitsBehind old new less bytes =
    (length less + new.unflushed ≡ length bytes)
    ⊎ ((less ≡ []) × (new.unflushed ≡ old.unflushed + length bytes))

-- all answers but the last were flushed, and what was written of the last one waits for a flush
abbrev pub LastWaits : Agreed → Sending → Sending → Type 0
LastWaits l before after =
    (bodies : List (List ℕ)) × (rest : List ℕ)
    × (stops : Stops l (standing_of before) (standing_of after) bodies rest)
    × WaitsBehind before.writer.counts after.writer.counts stops.less stops.bytes

-- no byte waits for a flush at the writer, or it wasn't called
abbrev pub WriterIsFlushed : Sending → Sending → Type 0
WriterIsFlushed before after = IsFlushed before.writer.counts after.writer.counts

-- each answer was flushed before the next body was handled
abbrev pub Flushes : Agreed → Sending → Sending → Result Report ServeFault → Type 0
Flushes l before after (Ok report) = WriterIsFlushed before after
Flushes l before after (Err Read) = WriterIsFlushed before after
Flushes l before after (Err BadHeader) = WriterIsFlushed before after
Flushes l before after (Err CutFrame) = WriterIsFlushed before after
Flushes l before after (Err Memory) = WriterIsFlushed before after
Flushes l before after (Err Write) = LastWaits l before after
Flushes l before after (Err TooManyTurns) = WriterIsFlushed before after ⊎ LastWaits l before after

-- ---- the turns

-- the reads and writes together are at most so many
abbrev pub WithinTurns : Usage → Usage → ℕ → Type 0
WithinTurns before after turns = after.reader.calls + after.writer.calls
    ≤ before.reader.calls + before.writer.calls + turns

-- ---- the cause of each end

-- neither stream failed
pub record NoFailure (before after : Usage) : Type 0 where
  pub reader : after.reader.failures ≡ before.reader.failures
  pub writer : after.writer.failures ≡ before.writer.failures

-- each turn was taken by a read or a write, and moved a byte
pub record UsesAllTurns (before after : Usage) (turns : ℕ) : Type 0 where
  pub calls : after.reader.calls + after.writer.calls
      ≡ before.reader.calls + before.writer.calls + turns
  pub moved : turns + (before.reader.moved + before.writer.moved)
      ≤ after.reader.moved + after.writer.moved

-- a failure is told only where the stream failed, and every other answer only where neither did
abbrev pub Cause : Usage → Usage → ℕ → Result Report ServeFault → Type 0
Cause before after turns (Ok report) = NoFailure before after
Cause before after turns (Err Read) = before.reader.failures < after.reader.failures
Cause before after turns (Err Write) = before.writer.failures < after.writer.failures
Cause before after turns (Err BadHeader) = NoFailure before after
Cause before after turns (Err CutFrame) = NoFailure before after
Cause before after turns (Err Memory) = NoFailure before after
Cause before after turns (Err TooManyTurns) = NoFailure before after
    × UsesAllTurns before after turns
