use Rattle.std.proofs.Common.{◌≡◌, ◌+◌, ◌-◌, ◌≤◌, length, take}
use Rattle.std.specs.Io.KnownBytes.{Appends}
use Rattle.iso_host.specs.Turns.{Spends, TakesTurns}
use Rattle.iso_host.proofs.serving.write_whole.Given as goal

abbrev pub invariant-loop-at : goal.invariant-loop-at
invariant-loop-at g l = record {
  in_range : l.at ≤ length l.bytes;
  written : Appends (g.W.Outlet.contents l.initial.writer) (g.W.Outlet.contents l.writer) (take l.at l.bytes);
  turns : TakesTurns (g.W.Outlet.counts l.initial.writer) (g.W.Outlet.counts l.writer) l.initial.left l.left;
  waits : (g.W.Outlet.counts l.writer).unflushed ≡ (g.W.Outlet.counts l.initial.writer).unflushed + l.at;
  spent : Spends (g.W.Outlet.counts l.initial.writer) (g.W.Outlet.counts l.writer) l.initial.left l.left;
}

abbrev pub decreases-loop-at : goal.decreases-loop-at
decreases-loop-at g l = length l.bytes - l.at
