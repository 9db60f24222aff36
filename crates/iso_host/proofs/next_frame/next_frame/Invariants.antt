use Rattle.std.proofs.Common.{◌≡◌, ◌+◌, ◌*◌, length}
use Rattle.std.specs.Io.KnownBytes.{Consumes, prepend_known}
use Rattle.iso_wire.specs.Framing.{NeedsMore}
use Rattle.iso_host.specs.Beginning.{held_of, IsBegun}
use Rattle.iso_host.specs.Counts.{stream}
use Rattle.iso_host.specs.Reading.{TakesReads, reading}
use Rattle.iso_host.specs.Turns.{TakesTurns}
use Rattle.iso_host.proofs.next_frame.next_frame.Given as goal

abbrev pub invariant-pieces : goal.invariant-pieces
invariant-pieces g l = record {
  part : Consumes (prepend_known l.initial.line.window (g.R.Inlet.remaining l.initial.reader)) (prepend_known l.line.window (g.R.Inlet.remaining l.reader))
      (held_of l.line.begun l.line.gathering.part);
  begun : IsBegun l.header l.line.begun l.line.gathering.part;
  needs : NeedsMore l.header (held_of l.line.begun l.line.gathering.part);
  same : l.line.gathering.table ≡ l.table;
  issuer : l.issuer ≡ l.initial.issuer;
  out : l.line.out.items ≡ l.initial.line.out.items;
  turns : TakesTurns (g.R.Inlet.counts l.initial.reader) (g.R.Inlet.counts l.reader) l.initial.left l.left;
  reads : TakesReads (reading l.initial.line.window (stream (g.R.Inlet.remaining l.initial.reader) (g.R.Inlet.counts l.initial.reader)) l.initial.left)
      (reading l.line.window (stream (g.R.Inlet.remaining l.reader) (g.R.Inlet.counts l.reader)) l.left) (length (held_of l.line.begun l.line.gathering.part));
}

-- a read takes one of what is left, and brings at most 4,096 bytes, a block: 4097 is one more
abbrev pub decreases-pieces : goal.decreases-pieces
decreases-pieces g l = 4097 * l.left + length l.line.window
