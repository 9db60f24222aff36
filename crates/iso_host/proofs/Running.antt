-- What holds between two frames of a call of `serve`, and what answering a body leaves.
use Rattle.std.proofs.Common.{◌≡◌, ℕ, ◌+◌, ◌≤◌, List, [], Option}
use Rattle.std.specs.Io.KnownBytes.{Appends}
use Rattle.iso_wire.specs.Contents.{Contents}
use Rattle.iso_issuer.specs.Books.{Books}
use Rattle.iso_host.specs.Answering.{FlushesAll, WritesPart}
use Rattle.iso_host.specs.Counts.{Stream, Usage}
use Rattle.iso_host.specs.Handling.{entered_by}
use Rattle.iso_host.specs.Links.{Agreed}
use Rattle.iso_host.specs.Output.{IsAnswerTo}
use Rattle.iso_host.specs.Serving.{Sending, Serves, Reports, standing_of}
use Rattle.iso_host.specs.declared.fault.Report.{Report}

-- the frames so far were handled and answered, and no byte behind them was taken
pub record Going (l : Agreed) (before now : Sending) (report : Report) : Type 0 where
  pub bodies : List (List ℕ)
  pub serves : Serves l (standing_of before) (standing_of now) bodies []
  pub flushed : FlushesAll before.writer.counts now.writer.counts serves.bytes
  pub reports : Reports l.table report bodies

-- each turn was taken by a read or a write, and moved a byte; none failed
pub record Running (before now : Usage) (turns left : ℕ) : Type 0 where
  pub calls : now.reader.calls + now.writer.calls + left ≡ before.reader.calls + before.writer.calls + turns
  pub moved : now.reader.calls + now.writer.calls + (before.reader.moved + before.writer.moved)
      ≤ before.reader.calls + before.writer.calls + (now.reader.moved + now.writer.moved)
  pub reader : now.reader.failures ≡ before.reader.failures
  pub writer : now.writer.failures ≡ before.writer.failures

module _ (l : Agreed) (books_old books_new : Books) (message : Option Contents) (before after : Stream) where
  -- the message's order was entered, and some bytes at the front of its answer were written, or none
  abbrev pub AnswersPart : Type 0
  AnswersPart = (books_new ≡ entered_by books_old message) × ((bytes : List ℕ) × IsAnswerTo l.table l.header books_old message bytes × WritesPart before after bytes)

  -- the message's order was entered and its answer written and flushed
  pub record AnswersWhole : Type 0 where
    pub entered : books_new ≡ entered_by books_old message
    pub bytes : List ℕ
    pub answer : IsAnswerTo l.table l.header books_old message bytes
    pub appends : Appends before.bytes after.bytes bytes
    pub flushed : FlushesAll before.counts after.counts bytes
