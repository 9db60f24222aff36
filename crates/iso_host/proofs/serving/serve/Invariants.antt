use Rattle.std.proofs.Common.{◌≡◌, ◌+◌, ◌*◌, [], length}
use Rattle.std.specs.Io.KnownBytes.{prepend_known}
use Rattle.iso_host.proofs.Running.{Going, Running}
use Rattle.iso_host.specs.Beginning.{held_of, IsBegun}
use Rattle.iso_host.specs.Counts.{stream, usage}
use Rattle.iso_host.specs.Links.{agreed}
use Rattle.iso_host.specs.Serving.{sending}
use Rattle.iso_host.proofs.serving.serve.Given as goal

abbrev pub invariant-frames : goal.invariant-frames
invariant-frames g l = record {
  same : l.line.gathering.table ≡ l.table;
  begun : IsBegun l.header l.line.begun l.line.gathering.part;
  none : held_of l.line.begun l.line.gathering.part ≡ [];
  going : Going (agreed l.table l.header)
      (sending (g.R.Inlet.remaining l.initial.reader) (stream (g.W.Outlet.contents l.initial.writer) (g.W.Outlet.counts l.initial.writer)) l.initial.issuer)
      (sending (prepend_known l.line.window (g.R.Inlet.remaining l.reader)) (stream (g.W.Outlet.contents l.writer) (g.W.Outlet.counts l.writer)) l.issuer) l.report;
  running : Running (usage (g.R.Inlet.counts l.initial.reader) (g.W.Outlet.counts l.initial.writer)) (usage (g.R.Inlet.counts l.reader) (g.W.Outlet.counts l.writer)) l.turns l.left;
}

-- 4097 is one more than a block's 4,096 bytes, the most that one of the turns left brings
abbrev pub decreases-frames : goal.decreases-frames
decreases-frames g l = 4097 * l.left + length l.line.window
