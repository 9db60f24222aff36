use Rattle.std.proofs.Common.{◌≡◌, ◌+◌, ◌≤◌, vec_len}
use Rattle.std.specs.Io.KnownBytes.{Consumes}
use Rattle.iso_cli.specs.Streaming.{Gave}
use Rattle.iso_cli.proofs.streaming.read_all.Given as goal

-- an input has at most 1,048,576 bytes, MOST_BYTES
abbrev pub invariant-loop : goal.invariant-loop
invariant-loop g l = record {
  consumed : Consumes (g.I.Inlet.remaining l.initial.input) (g.I.Inlet.remaining l.input) l.bytes.items;
  bound : vec_len l.bytes ≤ 1048576;
  gave : Gave (g.I.Inlet.counts l.initial.input) (g.I.Inlet.counts l.input) (vec_len l.bytes);
  each : l.counter ≤ vec_len l.bytes;
  calls : (g.I.Inlet.counts l.input).calls ≡ (g.I.Inlet.counts l.initial.input).calls + l.counter;
}
